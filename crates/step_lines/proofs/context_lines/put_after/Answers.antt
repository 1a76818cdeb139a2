use Rattle.step_lines.proofs.Joining.{and_then}
use Rattle.step_lines.proofs.context_lines.put_after.Goals as goal

pub returns-in-None : goal.returns-in-None
returns-in-None g c = rw c.in-None.is c.put_one.ensures

pub returns-in-Some : goal.returns-in-Some
returns-in-Some g c = rw c.in-Some.is (and_then c.put_registers-at.ensures c.put_left_or_on.ensures)
