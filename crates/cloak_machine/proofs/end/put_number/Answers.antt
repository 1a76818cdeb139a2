use Rattle.kernel_report.proofs.PutFacts.{then}
use Rattle.cloak_machine.proofs.end.put_number.Goals as goal

pub returns : goal.returns
returns g c = then c.text-so_far.ensures (then c.decimal-so_far.ensures c.text.ensures)
