use Rattle.cloak_model.specs.Items.{item_of}
use Rattle.run_trace.proofs.KernelAdds.{adds_marker}
use Rattle.run_trace.proofs.kernel_side.trace_marker.Goals as goal

pub returns : goal.returns
returns g c turns s is stands fits =
    adds_marker c.args.choice.now turns s (item_of c.args.item.now) c.open_step-open.result c.requires stands fits
    (c.take-taken.ensures.takes turns s is stands) c.take-taken.ensures.ending (c.open_step-open.ensures turns s stands)
    c.put_made-so_far.ensures
