use Rattle.limit_law.proofs.EndedRuns.{refusals_are_few}
use Rattle.limit_law.proofs.law_of_refusals.Goals as goal

pub returns : goal.returns
returns c = refusals_are_few
