use Rattle.frozen_law.proofs.Sizes.{runs_keep_sizes}
use Rattle.frozen_law.proofs.law_of_sizes.Goals as goal

pub returns : goal.returns
returns c = runs_keep_sizes
