use Rattle.cloaked_side.proofs.Serving.{wrap_outside}
use Rattle.cloaked_side.proofs.Sided.{within_of}
use Rattle.cloaked_side.proofs.side.SideRam.unmark.Goals as goal

pub returns-clause-follows : goal.returns-clause-follows
returns-clause-follows g c first w sees unclashed =
    let kept = within_of g.E.Emit.gave c.args.self.now c.release.new.self c.release.ensures.keeps in
    wrap_outside g.E.Emit.gave first c.args.self.now c.release.new.self _ _ kept.stays.regime sees.1
    (c.release.ensures.told first w sees.0)
