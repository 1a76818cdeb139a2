use Rattle.std.proofs.Common.{◌∙◌, ℕ, Ok, ap}
use Rattle.cloak_model.specs.HartStep.{with_word, gone_on, stays}
use Rattle.step_parts.specs.Parts.{loaded}
use Rattle.host_calls.proofs.WholeAccess.{load_steps}
use Rattle.host_calls.proofs.plain_step.load.Goals as goal

pub returns-in-Err : goal.returns-in-Err
returns-in-Err g c =
    load_steps g.M.Ram _ _ _ _ _ _ _ _ _ c.raise.ensures c.in-Err.ensures

pub returns-in-Ok : goal.returns-in-Ok
unfolding loaded
returns-in-Ok g c =
    load_steps g.M.Ram _ _ _ _ _ _ _ (Ok c.in-Ok.value) _
    (c.go_on_with.ensures ∙ ap (λ (v : ℕ). stays (gone_on (with_word c.args.h.now c.args.rd v))) c.extended.ensures)
    c.in-Ok.ensures
