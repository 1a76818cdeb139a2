use Rattle.kernel_report.proofs.PutFacts.{then}
use Rattle.step_lines.proofs.Joining.{no_effect, one_effect}
use Rattle.step_lines.proofs.changes.put_jump_unless.Goals as goal

pub returns-then-next : goal.returns-then-next
returns-then-next g c = rw c.if-next.true no_effect

pub returns-else-next : goal.returns-else-next
returns-else-next g c = rw c.if-next.false (one_effect (then c.put_gap-so_far.ensures (then c.text-so_far.ensures c.hexadecimal.ensures)))
