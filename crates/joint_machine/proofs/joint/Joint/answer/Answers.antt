use Rattle.std.proofs.Common.{Some, None, refl, sym}
use Rattle.cloak_model.specs.Joint.{answers_violation}
use Rattle.joint_machine.proofs.AfterEnd.{answers_as}
use Rattle.joint_machine.proofs.joint.Joint.answer.Goals as goal

pub returns-in-None-clause-ends : goal.returns-in-None-clause-ends
unfolding answers_violation
returns-in-None-clause-ends g c t s =
    answers_as g.E.Emit.gave c.args.e.now c.end_resumed.new.e c.end_resumed.new.self None _ (Some c.args.v) _ t
    (sym c.in-None.is) refl
    (c.end_resumed.ensures.ends t s)

pub returns-in-Some-clause-ends : goal.returns-in-Some-clause-ends
unfolding answers_violation
returns-in-Some-clause-ends g c t s =
    answers_as g.E.Emit.gave c.args.e.now c.end_asked.new.e c.end_asked.new.self (Some c.in-Some.ctx) _
    (Some c.args.v) _ t (sym c.in-Some.is) refl
    (c.end_asked.ensures.ends t s)
