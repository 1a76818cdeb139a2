use Rattle.shadow_law.proofs.Born.{born_agrees}
use Rattle.shadow_law.proofs.law_of_misses.Goals as goal

pub returns : goal.returns
returns c = born_agrees
