use Rattle.kernel_report.proofs.PutFacts.{then}
use Rattle.record_text.proofs.items.put_put.Goals as goal

pub returns : goal.returns
returns g c = then c.text-so_far.ensures (then c.put_word-so_far.ensures (then c.text-so_far-2.ensures (then c.decimal-so_far.ensures (then c.text-so_far-3.ensures c.put_word.ensures))))
