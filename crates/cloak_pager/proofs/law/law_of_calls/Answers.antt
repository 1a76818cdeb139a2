use Rattle.cloak_pager.proofs.Calls.{law}
use Rattle.cloak_pager.proofs.law.law_of_calls.Goals as goal

pub returns : goal.returns
returns c = law
