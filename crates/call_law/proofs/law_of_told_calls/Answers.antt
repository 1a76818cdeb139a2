use Rattle.call_law.proofs.Made.{told_calls_are_made}
use Rattle.call_law.proofs.law_of_told_calls.Goals as goal

pub returns : goal.returns
returns c = told_calls_are_made
