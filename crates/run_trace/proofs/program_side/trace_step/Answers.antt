use Rattle.cloak_model.specs.Items.{item_of}
use Rattle.run_trace.proofs.ProgramAdds.{adds_step}
use Rattle.run_trace.proofs.program_side.trace_step.Goals as goal

pub returns : goal.returns
returns g c turns s stands fits =
    adds_step c.args.choice.now c.args.number turns s (item_of c.args.item.now) c.open_context-open.result c.is_made-made.result
    c.requires.other (c.take-taken.ensures.takes c.args.number turns s stands)
    (c.open_context-open.ensures turns s stands fits) c.is_made-made.ensures c.put_made_if-so_far.ensures
