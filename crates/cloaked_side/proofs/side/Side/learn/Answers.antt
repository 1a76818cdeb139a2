use Rattle.cloaked_side.proofs.Known.{learns}
use Rattle.cloaked_side.proofs.side.Side.learn.Goals as goal

pub returns-clause-sees : goal.returns-clause-sees
returns-clause-sees g c first w satp a walked cloaked sees is same other =
    learns g.E.Emit.gave first c.args.self.now c.learn.new.self c.args.e satp a walked cloaked w sees is same other c.learn.ensures.born
