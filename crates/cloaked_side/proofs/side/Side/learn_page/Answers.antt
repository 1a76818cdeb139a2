use Rattle.std.proofs.Common.{Some}
use Rattle.cloaked_side.proofs.Known.{sees_live, viewed_own}
use Rattle.cloaked_side.proofs.side.Side.learn_page.Goals as goal

pub returns-in-None-clause-sees : goal.returns-in-None-clause-sees
returns-in-None-clause-sees g c first w walked sees so =
    let regime = c.args.self.now.regime in
    sees_live g.E.Emit.gave first c.args.self.now regime c.args.va c.args.kind (Some c.args.q) walked w sees (viewed_own regime) (λ counts. (so.live c.in-None.is counts).0)
