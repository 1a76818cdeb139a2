use Rattle.frozen_law.proofs.Marks.{marks_are_in_ram}
use Rattle.frozen_law.proofs.law_of_reservations.Goals as goal

pub returns : goal.returns
returns c = marks_are_in_ram
