use Rattle.limit_law.proofs.EndedRuns.{ended_are_gone}
use Rattle.limit_law.proofs.law_of_endings.Goals as goal

pub returns : goal.returns
returns c = ended_are_gone
