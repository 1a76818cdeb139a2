use Rattle.cloaked_side.proofs.Sided.{stays_self}
use Rattle.cloaked_side.proofs.Serving.{asked_reach, unused_offered, served_same, wrap_inside}
use Rattle.cloaked_side.proofs.program_side.ProgramSidePageSide.reach.Goals as goal

pub returns-clause-follows : goal.returns-clause-follows
returns-clause-follows g c first w has sees unclashed =
    let kept = c.reach_page.ensures.leaves.keeps c.args.self.now.side (stays_self g.E.Emit.gave c.args.self.now.side) in
    wrap_inside g.E.Emit.gave first.side c.args.self.now.side _ _ _ kept.regime sees.1
    (asked_reach g.E.Emit.gave first.side c.args.self.now.side c.reach_page.new.self.side c.args.q c.args.va c.args.kind _ w sees.0 unclashed
    (λ u. c.reach_page.ensures.follows first.side w sees.1.0 sees.0 sees.1.1 u))

pub returns-clause-unused : goal.returns-clause-unused
returns-clause-unused g c n other unused =
    let kept = c.reach_page.ensures.leaves.keeps c.args.self.now.side (stays_self g.E.Emit.gave c.args.self.now.side) in
    unused_offered c.args.self.now.side c.reach_page.new.self.side c.args.q n kept.domain
    c.reach_page.ensures.leaves.others other unused

pub returns-clause-same_domain : goal.returns-clause-same_domain
returns-clause-same_domain g c =
    let kept = c.reach_page.ensures.leaves.keeps c.args.self.now.side (stays_self g.E.Emit.gave c.args.self.now.side) in
    served_same c.args.self.now.side c.reach_page.new.self.side kept.size kept.domain
