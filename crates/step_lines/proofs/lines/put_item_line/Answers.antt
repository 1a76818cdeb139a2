use Rattle.kernel_report.proofs.PutFacts.{then}
use Rattle.step_lines.proofs.lines.put_item_line.Goals as goal

pub returns : goal.returns
returns g c = then c.put_front-so_far.ensures (then c.put_item-so_far.ensures c.text.ensures)
