use Rattle.std.proofs.Common.{refl, sym}
use Rattle.cloak_model.specs.Joint.{hart_in}
use Rattle.joint_machine.proofs.Closed.{closes_as}
use Rattle.joint_machine.proofs.joint.Joint.close.Goals as goal

pub returns-clause-closes : goal.returns-clause-closes
returns-clause-closes g c j stands =
    closes_as g.E.Emit.gave c.args.e.now c.settle_all.new.e c.args.self.now _ j _ stands (sym stands.memory.pager.count)
    refl refl refl refl refl refl
    (c.settle_all.ensures.settles j.memory (hart_in j 0) stands.memory)
