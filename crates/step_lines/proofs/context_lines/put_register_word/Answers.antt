use Rattle.kernel_report.proofs.PutFacts.{then}
use Rattle.step_lines.proofs.context_lines.put_register_word.Goals as goal

pub returns : goal.returns
returns g c = then c.text-so_far.ensures c.hexadecimal.ensures
