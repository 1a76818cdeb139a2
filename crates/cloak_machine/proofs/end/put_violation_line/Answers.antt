use Rattle.kernel_report.proofs.PutFacts.{then}
use Rattle.cloak_machine.proofs.end.put_violation_line.Goals as goal

pub returns-in-Some : goal.returns-in-Some
returns-in-Some g c =
    rw c.in-Some.is (then c.text-so_far.ensures (then c.put_violation-so_far.ensures c.text.ensures))
