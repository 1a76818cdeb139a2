use Rattle.kernel_report.proofs.PutFacts.{then}
use Rattle.step_lines.proofs.Joining.{one_effect}
use Rattle.step_lines.proofs.context_lines.put_one.Goals as goal

pub returns : goal.returns
returns g c = one_effect (then c.put_gap-so_far.ensures c.text.ensures)
