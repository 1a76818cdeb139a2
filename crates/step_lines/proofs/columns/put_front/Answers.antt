use Rattle.kernel_report.proofs.PutFacts.{then}
use Rattle.step_lines.proofs.columns.put_front.Goals as goal

pub returns : goal.returns
returns g c = then c.put_number_column-so_far.ensures c.put_hart_column.ensures
