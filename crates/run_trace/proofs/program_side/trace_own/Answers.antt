use Rattle.cloak_model.specs.Items.{item_of}
use Rattle.run_trace.proofs.ProgramAdds.{adds_own}
use Rattle.run_trace.proofs.program_side.trace_own.Goals as goal

pub returns : goal.returns
returns g c turns s stands fits =
    adds_own c.args.choice.now c.args.number turns s (item_of c.args.item.now) c.step-step.result c.turn-hart.result
    c.has-chosen.result c.requires (c.take-taken.ensures.takes c.args.number turns s stands)
    (c.step-step.ensures c.args.number turns s stands fits) (c.turn-hart.ensures c.args.number turns s stands fits)
    c.has-chosen.ensures c.put_fitting-so_far.ensures
