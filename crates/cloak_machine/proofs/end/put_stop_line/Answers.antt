use Rattle.kernel_report.proofs.PutFacts.{then}
use Rattle.cloak_machine.proofs.end.put_stop_line.Goals as goal

pub returns : goal.returns
returns g c = then c.put_stop-so_far.ensures c.text.ensures
