use Rattle.kernel_report.proofs.PutFacts.{then}
use Rattle.record_text.proofs.lines.put_chosen.Goals as goal

pub returns : goal.returns
returns g c = then c.begin_line-so_far.ensures (then c.text-so_far.ensures c.put_item.ensures)
