use Rattle.std.proofs.Common.{◌∙◌, ap, Some, ℕ, true}
use Rattle.run_trace.specs.ProgramTrace.{page_reached, reached_as}
use Rattle.step_lines.specs.declared.contexts.ReachedPage.{ReachedPage}
use Rattle.run_trace.proofs.program_ahead.page_reached.Goals as goal

pub returns-in-None : goal.returns-in-None
returns-in-None c number turns s stands fits =
    c.uncloaked_reached.ensures ∙ ap (page_reached s.part c.args.r.now) (c.in-None.ensures.value number turns s stands fits)

pub returns-in-Some : goal.returns-in-Some
returns-in-Some c number turns s stands fits =
    ap (λ (x : ReachedPage). Some x) (c.reached_as.ensures
    ∙ ap (λ (n : ℕ). reached_as true n c.args.r.now) (c.value_in_page-value.ensures number turns s stands fits))
    ∙ ap (page_reached s.part c.args.r.now) (c.in-Some.ensures.value number turns s stands fits)
