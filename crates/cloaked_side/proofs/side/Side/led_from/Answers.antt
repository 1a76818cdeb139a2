use Rattle.std.proofs.Common.{subst}
use Rattle.cloaked_side.specs.Leading.{IsFoundSo, IsRightFound, found_to}
use Rattle.cloaked_side.proofs.side.Side.led_from.Goals as goal

pub returns-in-Missed-clause-leads : goal.returns-in-Missed-clause-leads
returns-in-Missed-clause-leads g c first w cloaked so =
    let kind = c.args.kind in
    c.led_by_walk.ensures.leads first w cloaked
    (subst (λ f. IsFoundSo g.E.Emit.gave first c.args.self.now w c.args.regime.now c.args.va kind cloaked (found_to kind f)) c.in-Missed.is so)

pub handed_on-requires : goal.handed_on-requires
handed_on-requires g c = subst IsRightFound c.in-Other.is c.requires.placed
