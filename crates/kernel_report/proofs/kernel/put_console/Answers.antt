use Rattle.kernel_report.proofs.PutFacts.{then}
use Rattle.kernel_report.proofs.kernel.put_console.Goals as goal

pub returns : goal.returns
returns g c = then c.text-so_far.ensures (then c.decimal-so_far.ensures c.put_digest.ensures)
