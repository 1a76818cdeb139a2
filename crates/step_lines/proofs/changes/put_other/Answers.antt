use Rattle.kernel_report.proofs.PutFacts.{then}
use Rattle.step_lines.proofs.changes.put_other.Goals as goal

pub returns-else-same : goal.returns-else-same
returns-else-same g c = rw c.if-same.false (then c.text-so_far.ensures c.hexadecimal.ensures)
