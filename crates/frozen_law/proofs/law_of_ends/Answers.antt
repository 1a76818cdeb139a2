use Rattle.frozen_law.proofs.Violations.{ends_are_in_range}
use Rattle.frozen_law.proofs.law_of_ends.Goals as goal

pub returns : goal.returns
returns c = ends_are_in_range
