use Rattle.std.proofs.Common.{refl}
use Rattle.cloaked_side.proofs.Sided.{sees_settled, within_more}
use Rattle.cloaked_side.proofs.Spending.{maps_killed}
use Rattle.cloaked_side.proofs.Holders.{no_more_emptied}
use Rattle.cloaked_side.proofs.side.Side.settle.Goals as goal

pub returns-clause-sees : goal.returns-clause-sees
returns-clause-sees g c first w sees =
    sees_settled _ first c.args.self.now _ c.args.f.0 w c.settle.ensures.settles c.settle.ensures.tracks c.settle.ensures.spends
    (maps_killed c.args.self.now.memory.now c.settle.new.self _ c.args.f c.settle.ensures.ends) refl refl refl sees

pub returns-clause-keeps : goal.returns-clause-keeps
returns-clause-keeps g c first stays =
    within_more _ first c.args.self.now _ stays refl refl c.settle.ensures.emits_some c.settle.ensures.same refl refl
    c.settle.ensures.counting (no_more_emptied c.args.f.0 _ _ c.settle.ensures.stays c.settle.ensures.outside)
