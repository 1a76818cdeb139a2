use Rattle.kernel_report.proofs.PutFacts.{then, text_is}
use Rattle.record_text.proofs.items.put_absent.Goals as goal

pub returns : goal.returns
returns g c = then c.put_inward-so_far.ensures (text_is c.put_name.ensures c.cause_name.ensures)
