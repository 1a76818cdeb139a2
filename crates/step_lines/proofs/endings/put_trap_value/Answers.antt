use Rattle.kernel_report.proofs.PutFacts.{then}
use Rattle.step_lines.proofs.endings.put_trap_value.Goals as goal

pub returns-then-tells : goal.returns-then-tells
returns-then-tells g c = rw c.if-tells.true (then c.text-so_far.ensures c.hexadecimal.ensures)
