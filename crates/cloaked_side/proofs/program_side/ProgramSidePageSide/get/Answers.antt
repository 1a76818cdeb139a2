use Rattle.cloaked_side.proofs.Sided.{within_of, stays_on}
use Rattle.cloaked_side.proofs.Serving.{asked_get, unused_still, served_same, wrap_inside}
use Rattle.cloaked_side.proofs.program_side.ProgramSidePageSide.get.Goals as goal

pub returns-clause-follows : goal.returns-clause-follows
returns-clause-follows g c first w sees unclashed =
    let kept = within_of g.E.Emit.gave c.args.self.now.side c.get_value.new.self.side c.get_value.ensures.keeps in
    wrap_inside g.E.Emit.gave first.side c.args.self.now.side _ _ _ kept.stays.regime sees.1
    (asked_get g.E.Emit.gave first.side c.args.self.now.side c.get_value.new.self.side c.args.va c.args.width _ w sees.0 unclashed
    (λ u. c.get_value.ensures.follows first.side w sees.1.0 sees.0 sees.1.1 u))

pub returns-clause-keeps : goal.returns-clause-keeps
returns-clause-keeps g c first stays = stays_on g.E.Emit.gave first.side c.args.self.now.side _ c.get_value.ensures.keeps stays

pub returns-clause-unused : goal.returns-clause-unused
returns-clause-unused g c n unused =
    let kept = within_of g.E.Emit.gave c.args.self.now.side c.get_value.new.self.side c.get_value.ensures.keeps in
    unused_still c.args.self.now.side c.get_value.new.self.side n kept.stays.domain kept.no_more unused

pub returns-clause-same_domain : goal.returns-clause-same_domain
returns-clause-same_domain g c =
    let kept = within_of g.E.Emit.gave c.args.self.now.side c.get_value.new.self.side c.get_value.ensures.keeps in
    served_same c.args.self.now.side c.get_value.new.self.side kept.stays.size kept.stays.domain
