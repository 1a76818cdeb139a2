use Rattle.kernel_report.proofs.PutFacts.{then}
use Rattle.step_lines.proofs.columns.put_hart_column.Goals as goal

pub returns-in-Some : goal.returns-in-Some
returns-in-Some g c = rw c.in-Some.is (then c.text-so_far.ensures (then c.decimal-so_far.ensures c.text-in-Some.ensures))
