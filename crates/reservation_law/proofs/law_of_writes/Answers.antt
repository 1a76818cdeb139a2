use Rattle.reservation_law.proofs.Runs.{bytes_stay}
use Rattle.reservation_law.proofs.law_of_writes.Goals as goal

pub returns : goal.returns
returns c = bytes_stay
