use Rattle.kernel_report.proofs.PutFacts.{then}
use Rattle.step_lines.proofs.Joining.{no_effect, one_effect}
use Rattle.step_lines.proofs.context_lines.put_hypercall_if.Goals as goal

pub returns-then-made : goal.returns-then-made
returns-then-made g c = rw c.if-made.true (one_effect (then c.put_gap-so_far.ensures c.put_hypercall.ensures))

pub returns-else-made : goal.returns-else-made
returns-else-made g c = rw c.if-made.false no_effect
