use Rattle.frozen_law.proofs.HartRuns.{harts_are_in_range}
use Rattle.frozen_law.proofs.law_of_harts.Goals as goal

pub returns : goal.returns
returns c = harts_are_in_range
