use Rattle.kernel_report.proofs.PutFacts.{then}
use Rattle.record_text.proofs.items.put_inward.Goals as goal

pub returns : goal.returns
returns g c = then c.put_program-so_far.ensures c.text.ensures
