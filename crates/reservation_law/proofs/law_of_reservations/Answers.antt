use Rattle.reservation_law.proofs.Runs.{reservations_are_kept}
use Rattle.reservation_law.proofs.law_of_reservations.Goals as goal

pub returns : goal.returns
returns c = reservations_are_kept
