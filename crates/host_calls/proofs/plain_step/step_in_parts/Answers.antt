use Rattle.std.proofs.Common.{◌∙◌, ap}
use Rattle.cloak_model.specs.Csr.{interrupt_due}
use Rattle.cloak_model.specs.Hart.{Hart}
use Rattle.host_calls.proofs.WholeAccess.{staying_step, whole_step}
use Rattle.host_calls.proofs.plain_step.step_in_parts.Goals as goal

pub returns-in-Stay : goal.returns-in-Stay
returns-in-Stay g c =
    staying_step g.M.Ram _ _ _ _ _ _ _ _ _ c.in-Stay.is c.tick.ensures
    (c.due-due.ensures ∙ ap (λ (h : Hart). interrupt_due h.mode h.csrs) c.h.view_is) c.interrupted-ending.ensures

pub returns : goal.returns
returns g c =
    whole_step g.M.Ram _ _ _ _ _ _ _ _ c.tick.ensures
    (c.due-due.ensures ∙ ap (λ (h : Hart). interrupt_due h.mode h.csrs) c.h.view_is)
    c.interrupted-ending.ensures (c.release.ensures _)
