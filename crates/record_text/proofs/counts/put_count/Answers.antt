use Rattle.kernel_report.proofs.PutFacts.{then}
use Rattle.record_text.proofs.counts.put_count.Goals as goal

pub returns : goal.returns
returns g c = then c.text-so_far.ensures (then c.decimal-so_far.ensures c.text.ensures)
