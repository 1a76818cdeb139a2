use Rattle.kernel_report.proofs.PutFacts.{then}
use Rattle.step_lines.proofs.Joining.{no_effect, one_effect}
use Rattle.step_lines.proofs.changes.put_csr_unless.Goals as goal

pub returns-then-same : goal.returns-then-same
returns-then-same g c = rw c.if-same.true no_effect

pub returns-else-same : goal.returns-else-same
returns-else-same g c = rw c.if-same.false (one_effect (then c.put_gap-so_far.ensures (then c.text-so_far.ensures (then c.text-so_far-else-same.ensures c.hexadecimal.ensures))))
