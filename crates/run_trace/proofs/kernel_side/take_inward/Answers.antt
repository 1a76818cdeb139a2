use Rattle.cloak_model.specs.Items.{item_of}
use Rattle.run_trace.proofs.KernelAdds.{adds_none}
use Rattle.run_trace.proofs.kernel_side.take_inward.Goals as goal

pub returns : goal.returns
returns g c turns s is stands fits =
    adds_none c.args.choice.now turns s (item_of c.args.item.now) c.requires.no_end c.requires.inward
    (c.take-taken.ensures.takes turns s is stands) c.text-so_far.ensures
