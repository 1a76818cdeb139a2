use Rattle.cloak_model.specs.Items.{item_of}
use Rattle.alone_views.proofs.KernelItems.{takes_none, takes_fit}
use Rattle.alone_views.proofs.kernel.KernelAlone.take_next.Goals as goal

pub returns-then-is_some-clause-gains : goal.returns-then-is_some-clause-gains
returns-then-is_some-clause-gains g c turns s ranges stands =
    takes_none g.E.Emit.gave c.args.e.now c.args.self.now turns s (item_of c.args.i.now) c.if-is_some.ensures stands

pub returns-clause-gains : goal.returns-clause-gains
returns-clause-gains g c turns s ranges stands =
    takes_fit g.E.Emit.gave c.args.e.now _ c.args.self.now _ turns s (item_of c.args.i.now) c.if-is_some.ensures stands
    (c.take_fit.ensures.gains turns s ranges stands)
