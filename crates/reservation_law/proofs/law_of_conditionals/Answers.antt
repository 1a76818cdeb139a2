use Rattle.reservation_law.proofs.Runs.{conditionals_store_reserved}
use Rattle.reservation_law.proofs.law_of_conditionals.Goals as goal

pub returns : goal.returns
returns c = conditionals_store_reserved
