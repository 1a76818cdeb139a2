use Rattle.std.proofs.Common.{◌∙◌, ap, Option}
use Rattle.cloak_model.specs.Contexts.{Context}
use Rattle.run_trace.specs.ProgramTrace.{open_with}
use Rattle.run_trace.proofs.program_side.open_slot.Goals as goal

pub returns-in-None : goal.returns-in-None
returns-in-None c turns s stands fits =
    ap (λ (o : Option Context). open_with c.args.choice.now c.args.number turns s c.args.slot o)
    (c.in-None.ensures.value c.args.number turns s stands fits)

pub returns-in-Some : goal.returns-in-Some
returns-in-Some c turns s stands fits =
    c.open_with.ensures turns s stands fits
    ∙ ap (λ (o : Option Context). open_with c.args.choice.now c.args.number turns s c.args.slot o)
    (c.in-Some.ensures.value c.args.number turns s stands fits)
