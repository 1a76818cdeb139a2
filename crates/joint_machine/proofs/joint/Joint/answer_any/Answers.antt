use Rattle.std.proofs.Common.{None, refl, sym}
use Rattle.cloak_model.specs.Joint.{answers_violation}
use Rattle.joint_machine.proofs.AfterEnd.{answers_as, ends_same}
use Rattle.joint_machine.proofs.joint.Joint.answer_any.Goals as goal

pub returns-in_default-clause-ends : goal.returns-in_default-clause-ends
unfolding answers_violation
returns-in_default-clause-ends g c t s =
    answers_as g.E.Emit.gave c.args.e.now c.args.e.now c.args.self.now c.args.inside _ None _ t refl
    (sym c.in_default.is)
    (ends_same g.E.Emit.gave c.args.e.now c.args.self.now t s)
