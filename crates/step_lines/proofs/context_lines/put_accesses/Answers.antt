use Rattle.kernel_report.proofs.PutFacts.{then}
use Rattle.step_lines.proofs.Joining.{no_effect, one_effect}
use Rattle.step_lines.proofs.context_lines.put_accesses.Goals as goal

pub returns-in-None : goal.returns-in-None
returns-in-None g c = rw c.in-None.is no_effect

pub returns-in-Some : goal.returns-in-Some
returns-in-Some g c = rw c.in-Some.is (one_effect (then c.put_gap-so_far.ensures c.put_access.ensures))
