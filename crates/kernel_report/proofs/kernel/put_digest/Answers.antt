use Rattle.kernel_report.proofs.PutFacts.{then}
use Rattle.kernel_report.proofs.kernel.put_digest.Goals as goal

pub returns : goal.returns
returns g c = then c.text-so_far.ensures (then c.digest-so_far.ensures c.text.ensures)
