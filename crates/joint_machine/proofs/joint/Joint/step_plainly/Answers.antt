use Rattle.std.proofs.Common.{refl}
use Rattle.joint_machine.proofs.Turns.{hart_is, steps_plainly}
use Rattle.joint_machine.proofs.Tracked.{plainly_goes}
use Rattle.joint_machine.proofs.joint.Joint.step_plainly.Goals as goal

pub returns-clause-steps : goal.returns-clause-steps
returns-clause-steps g c j s unclashed =
    steps_plainly g.E.Emit.gave _ _ c.args.self.now _ _ j c.args.number c.index_mut.result.now c.outside_step.new.h s
    (hart_is c.args.self.now.harts.items j.harts c.args.number c.index_mut.result.now s.harts c.requires c.index_mut.ensures.value) refl refl refl refl refl (c.outside_step.ensures.tells j.memory s.memory unclashed)

pub returns-clause-goes : goal.returns-clause-goes
returns-clause-goes g c j s unclashed =
    plainly_goes c.args.self.now.memory c.outside_step.new.memory j c.args.number c.index_mut.result.now c.args.self.now.disk
    (hart_is c.args.self.now.harts.items j.harts c.args.number c.index_mut.result.now s.harts c.requires c.index_mut.ensures.value) s.disk
    (c.outside_step.ensures.goes j.memory s.memory unclashed)
