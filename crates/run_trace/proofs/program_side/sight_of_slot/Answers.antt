use Rattle.std.proofs.Common.{◌∙◌, ap, option_map, Some}
use Rattle.step_lines.specs.Contexts.{context_sight}
use Rattle.step_lines.specs.declared.contexts.ContextSight.{ContextSight}
use Rattle.run_trace.proofs.program_side.sight_of_slot.Goals as goal

pub returns-in-None : goal.returns-in-None
returns-in-None c number turns s stands fits =
    ap (option_map context_sight) (c.in-None.ensures.value number turns s stands fits)

pub returns-in-Some : goal.returns-in-Some
returns-in-Some c number turns s stands fits =
    ap (λ (x : ContextSight). Some x) c.context_sight.ensures
    ∙ ap (option_map context_sight) (c.in-Some.ensures.value number turns s stands fits)
