use Rattle.kernel_report.proofs.PutFacts.{then}
use Rattle.step_lines.proofs.context_lines.put_store.Goals as goal

pub returns-then-r : goal.returns-then-r
returns-then-r g c = rw c.if-r.true (then c.put_value-so_far.ensures (then c.text-so_far.ensures c.put_value.ensures))

pub returns-else-r : goal.returns-else-r
returns-else-r g c = rw c.if-r.false (then c.text-so_far-else-r.ensures c.put_value-else-r.ensures)
