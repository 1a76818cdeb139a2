use Rattle.kernel_report.proofs.PutFacts.{then}
use Rattle.step_lines.proofs.changes.put_place.Goals as goal

pub returns : goal.returns
returns g c =
    then c.text-so_far.ensures (then c.hexadecimal-so_far.ensures (then c.put_other-so_far.ensures c.text.ensures))
