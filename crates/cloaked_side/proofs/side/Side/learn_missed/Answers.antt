use Rattle.std.proofs.Common.{sym, subst}
use Rattle.shadow_fold.specs.Following.{AreBirthCalls}
use Rattle.cloaked_side.proofs.Known.{learns}
use Rattle.cloaked_side.proofs.side.Side.learn_missed.Goals as goal

pub returns-clause-sees : goal.returns-clause-sees
returns-clause-sees g c first w satp a walked cloaked sees is same other =
    let old = c.args.self.now in
    learns g.E.Emit.gave first old c.learn_missed.new.self c.args.e satp a walked cloaked w sees is same other
    (λ within. subst (λ b. AreBirthCalls b c.args.e old.memory.now.shadows c.learn_missed.new.self) (sym c.requires.unknown)
    (c.learn_missed.ensures.born within))
