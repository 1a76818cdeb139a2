use Rattle.std.proofs.Common.{◌∙◌, ap}
use Rattle.cloak_model.specs.Items.{item_of}
use Rattle.run_trace.specs.KernelTrace.{hart_there}
use Rattle.run_trace.proofs.KernelAdds.{adds_outward}
use Rattle.run_trace.proofs.kernel_side.trace_outward.Goals as goal

pub returns : goal.returns
returns g c turns s is stands fits =
    adds_outward c.args.choice.now turns s (item_of c.args.item.now) c.step-step.result c.hart_there-hart.result c.has-chosen.result
    c.requires.no_end c.requires.outward (c.take-taken.ensures.takes turns s is stands) (c.step-step.ensures turns s stands)
    (c.hart_there-hart.ensures ∙ ap hart_there (c.stage.ensures turns s stands)) c.has-chosen.ensures
    c.put_fitting-so_far.ensures
