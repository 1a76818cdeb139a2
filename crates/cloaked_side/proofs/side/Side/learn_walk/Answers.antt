use Rattle.std.proofs.Common.{None}
use Rattle.cloaked_side.proofs.Known.{unlearnt}
use Rattle.cloaked_side.proofs.side.Side.learn_walk.Goals as goal

pub returns-then-not-is_worth_learning-clause-sees : goal.returns-then-not-is_worth_learning-clause-sees
returns-then-not-is_worth_learning-clause-sees g c first w satp a walked sees is same =
    unlearnt g.E.Emit.gave first c.args.self.now c.is_worth_learning.new.self satp a walked None w c.if-not-self.true
    c.is_worth_learning.ensures sees
