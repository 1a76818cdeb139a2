use Rattle.kernel_report.proofs.PutFacts.{then}
use Rattle.step_lines.proofs.endings.put_resume.Goals as goal

pub returns : goal.returns
returns g c = then c.text-so_far.ensures (then c.decimal-so_far.ensures (then c.text-so_far-2.ensures c.hexadecimal.ensures))
