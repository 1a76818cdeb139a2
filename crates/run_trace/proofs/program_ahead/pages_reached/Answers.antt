use Rattle.std.proofs.Common.{◌≡◌, ◌∙◌, ap, refl, subst}
use Rattle.cloak_model.specs.Contexts.{Context}
use Rattle.step_lines.specs.Ahead.{reach_of}
use Rattle.run_trace.specs.ProgramTrace.{page_if}
use Rattle.run_trace.proofs.program_ahead.pages_reached.Goals as goal

pub returns-in-None : goal.returns-in-None
returns-in-None c number turns s stands fits = rw c.in-None.is refl

pub returns-in-Some : goal.returns-in-Some
returns-in-Some c number turns s stands fits =
    rw c.in-Some.is
    (subst (λ (x : Context). c.page_if.result ≡ page_if s.part x.space (reach_of x.regs x.pc c.in-Some.word)) c.c.view_is
    (c.page_if.ensures number turns s stands fits ∙ ap (page_if s.part c.c.inside.space) c.reach_of-reach.ensures))
