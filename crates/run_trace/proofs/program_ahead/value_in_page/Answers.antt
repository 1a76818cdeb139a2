use Rattle.std.proofs.Common.{◌∙◌, ap, List, ℕ}
use Rattle.run_trace.specs.ProgramTrace.{value_of_page}
use Rattle.run_trace.proofs.program_ahead.value_in_page.Goals as goal

pub returns : goal.returns
returns c number turns s stands fits =
    c.value_of_page.ensures
    ∙ ap (λ (page : List ℕ). value_of_page page c.args.address c.args.width) (c.page.ensures number turns s stands fits)
