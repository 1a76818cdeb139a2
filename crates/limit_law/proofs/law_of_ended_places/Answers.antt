use Rattle.limit_law.proofs.EndedRuns.{ended_are_told}
use Rattle.limit_law.proofs.law_of_ended_places.Goals as goal

pub returns : goal.returns
returns c = ended_are_told
