use Rattle.cloaked_side.proofs.Atomics.{unstored_told, stored_if_told}
use Rattle.cloaked_side.proofs.side.Side.write_if.Goals as goal

pub returns-then-not-reserved-clause-told : goal.returns-then-not-reserved-clause-told
returns-then-not-reserved-clause-told g c first w sees =
    unstored_told g.E.Emit.gave first c.release.new.self c.args.reserved c.args.hart c.args.pa c.args.v w c.if-not-reserved.true
    (c.release.ensures.told first w sees)

pub returns-clause-told : goal.returns-clause-told
returns-clause-told g c first w sees =
    stored_if_told g.E.Emit.gave first c.write_settled.new.self c.release-2.new.self c.args.reserved c.args.hart c.args.pa c.args.v w
    c.if-not-reserved.false (c.write_settled.ensures.told first w sees) (λ v stands. c.release-2.ensures.told first v stands)
