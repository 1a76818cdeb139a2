use Rattle.kernel_report.proofs.PutFacts.{then}
use Rattle.step_lines.proofs.context_lines.put_access.Goals as goal

pub returns : goal.returns
returns g c =
    then c.text-so_far.ensures (then c.hexadecimal-so_far.ensures (then c.text-so_far-2.ensures c.put_way.ensures))
