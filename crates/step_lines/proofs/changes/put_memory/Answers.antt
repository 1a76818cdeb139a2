use Rattle.std.proofs.Common.{ℕ, ap}
use Rattle.kernel_report.proofs.PutFacts.{then, text_is}
use Rattle.step_lines.specs.Changes.{reached_text}
use Rattle.step_lines.proofs.Joining.{no_effect, one_effect}
use Rattle.step_lines.proofs.changes.put_memory.Goals as goal

pub returns-in-None : goal.returns-in-None
returns-in-None g c = rw c.in-None.is no_effect

pub returns-in-Some : goal.returns-in-Some
returns-in-Some g c = rw c.in-Some.is (one_effect (then c.put_gap-so_far.ensures
    (text_is c.put_reached.ensures (ap (λ (n : ℕ). reached_text c.in-Some.r n) c.value_there-now.ensures))))
