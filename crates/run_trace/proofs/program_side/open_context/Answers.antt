use Rattle.std.proofs.Common.{◌∙◌, ap, Option, ℕ}
use Rattle.run_trace.specs.ProgramTrace.{open_slot}
use Rattle.run_trace.proofs.program_side.open_context.Goals as goal

pub returns-in-None : goal.returns-in-None
returns-in-None c turns s stands fits =
    ap (λ (o : Option ℕ). open_slot c.args.choice.now c.args.number turns s o)
    (c.in-None.ensures c.args.number turns s stands fits)

pub returns-in-Some : goal.returns-in-Some
returns-in-Some c turns s stands fits =
    c.open_slot.ensures turns s stands fits
    ∙ ap (λ (o : Option ℕ). open_slot c.args.choice.now c.args.number turns s o)
    (c.in-Some.ensures c.args.number turns s stands fits)
