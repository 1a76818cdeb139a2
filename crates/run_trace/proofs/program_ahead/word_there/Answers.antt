use Rattle.std.proofs.Common.{◌∙◌, ap, Some, ℕ}
use Rattle.run_trace.specs.ProgramTrace.{word_by}
use Rattle.run_trace.proofs.program_ahead.word_there.Goals as goal

pub returns-in-None : goal.returns-in-None
returns-in-None c number turns s stands fits =
    ap (word_by s.part c.args.pc) (c.in-None.ensures.value number turns s stands fits)

pub returns-in-Some : goal.returns-in-Some
returns-in-Some c number turns s stands fits =
    ap (λ (n : ℕ). Some n) (c.value_in_page.ensures number turns s stands fits)
    ∙ ap (word_by s.part c.args.pc) (c.in-Some.ensures.value number turns s stands fits)
