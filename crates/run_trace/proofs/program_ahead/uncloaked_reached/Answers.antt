use Rattle.std.proofs.Common.{refl, ap, Some}
use Rattle.step_lines.specs.declared.contexts.ReachedPage.{ReachedPage}
use Rattle.run_trace.proofs.program_ahead.uncloaked_reached.Goals as goal

pub returns-then-r : goal.returns-then-r
returns-then-r c = rw c.if-r.true refl

pub returns-else-r : goal.returns-else-r
returns-else-r c = rw c.if-r.false (ap (λ (x : ReachedPage). Some x) c.reached_as.ensures)
