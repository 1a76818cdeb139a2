use Rattle.kernel_report.proofs.PutFacts.{then}
use Rattle.record_text.proofs.items.put_loaded.Goals as goal

pub returns : goal.returns
returns g c = then c.put_inward-so_far.ensures c.put_word.ensures
