use Rattle.std.proofs.Common.{◌∙◌, ℕ, Ok, Err, ap}
use Rattle.cloak_model.specs.HartStep.{with_word, gone_on, stays}
use Rattle.host_calls.proofs.WholeAccess.{conditional_steps}
use Rattle.host_calls.proofs.atomic.store_conditional.Goals as goal

pub returns-in-Err : goal.returns-in-Err
returns-in-Err g c = conditional_steps g.M.Ram _ _ _ _ _ _ (Err c.in-Err.cause) _ c.raise.ensures c.in-Err.ensures

pub returns-in-Ok : goal.returns-in-Ok
returns-in-Ok g c =
    conditional_steps g.M.Ram _ _ _ _ _ _ (Ok c.in-Ok.is_stored) _
    (c.go_on_with.ensures ∙ ap (λ (v : ℕ). stays (gone_on (with_word c.args.h.now c.args.rd v))) c.failure.ensures)
    c.in-Ok.ensures
