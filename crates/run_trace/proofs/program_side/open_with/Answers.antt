use Rattle.std.proofs.Common.{ap}
use Rattle.cloak_model.specs.Contexts.{Context}
use Rattle.run_trace.proofs.ProgramAdds.{opens_chosen, opens_not}
use Rattle.run_trace.proofs.program_side.open_with.Goals as goal

pub returns-then-chosen : goal.returns-then-chosen
returns-then-chosen c turns s stands fits =
    opens_chosen c.args.choice.now c.args.number turns s c.args.slot c.args.c.now c.step-step.result c.turn-hart.result
    c.c.inside.space c.context_ahead.result c.has-chosen.result (c.step-step.ensures c.args.number turns s stands fits)
    (c.turn-hart.ensures c.args.number turns s stands fits) (ap (λ (x : Context). x.space) c.c.view_is)
    c.has-chosen.ensures c.if-chosen.true
    (c.context_ahead.ensures c.args.number turns s stands fits)

pub returns-else-chosen : goal.returns-else-chosen
returns-else-chosen c turns s stands fits =
    opens_not c.args.choice.now c.args.number turns s c.args.slot c.args.c.now c.step-step.result c.turn-hart.result
    c.has-chosen.result (c.step-step.ensures c.args.number turns s stands fits)
    (c.turn-hart.ensures c.args.number turns s stands fits) c.has-chosen.ensures c.if-chosen.false
