use Rattle.std.proofs.Common.{◌∙◌, ℕ, ap, sym}
use Rattle.cloak_model.specs.HartStep.{raised}
use Rattle.cloak_model.specs.Hart.{Hart}
use Rattle.cloak_model.specs.HostCalls.{over}
use Rattle.host_calls.proofs.WholeAccess.{fault_steps, word_steps}
use Rattle.host_calls.proofs.plain_step.instruction_step.Goals as goal

pub returns-in-Err : goal.returns-in-Err
returns-in-Err g c =
    let same = ap (λ (h : Hart). h.pc) c.raise.view_is ∙ sym (ap (λ (h : Hart). h.pc) c.h.view_is) in
    fault_steps g.M.Ram _ _ c.args.h.now c.args.d.now c.h.inside.pc c.in-Err.cause _
    (ap (λ (h : Hart). h.pc) c.h.view_is)
    (ap (over c.args.d.now) (c.raise-in-Err.ensures ∙ ap (λ (va : ℕ). raised c.args.h.now c.in-Err.cause va) same))
    c.in-Err.ensures

pub returns-in-Ok : goal.returns-in-Ok
returns-in-Ok g c =
    word_steps g.M.Ram _ _ _ c.args.h.now c.args.d.now c.h.inside.pc c.in-Ok.word _ (ap (λ (h : Hart). h.pc) c.h.view_is)
    c.in-Ok.ensures c.executed.ensures
