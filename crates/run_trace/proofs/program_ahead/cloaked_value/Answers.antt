use Rattle.std.proofs.Common.{◌∙◌, ap}
use Rattle.run_trace.specs.ProgramTrace.{value_by}
use Rattle.run_trace.proofs.program_ahead.cloaked_value.Goals as goal

pub returns-in-None : goal.returns-in-None
returns-in-None c number turns s stands fits =
    ap (value_by s.part c.args.address c.args.width) (c.in-None.ensures.value number turns s stands fits)

pub returns-in-Some : goal.returns-in-Some
returns-in-Some c number turns s stands fits =
    c.value_in_page.ensures number turns s stands fits
    ∙ ap (value_by s.part c.args.address c.args.width) (c.in-Some.ensures.value number turns s stands fits)
