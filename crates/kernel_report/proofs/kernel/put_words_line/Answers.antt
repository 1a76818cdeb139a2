use Rattle.kernel_report.proofs.PutFacts.{then}
use Rattle.kernel_report.proofs.kernel.put_words_line.Goals as goal

pub returns : goal.returns
returns g c = then c.text-so_far.ensures (then c.put_words-so_far.ensures c.text.ensures)
