use Rattle.std.proofs.Common.{refl}
use Rattle.cloaked_side.proofs.side.Side.keep_walk.Goals as goal

pub returns-else-missed-clause-sees : goal.returns-else-missed-clause-sees
returns-else-missed-clause-sees g c first w satp a walked sees is same =
    c.learn.ensures.sees first w satp a walked _ sees is same refl
