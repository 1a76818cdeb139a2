use Rattle.std.proofs.Common.{◌∙◌, ap, refl}
use Rattle.cloak_model.specs.Hart.{Hart}
use Rattle.cloak_model.specs.Joint.{hart_in}
use Rattle.cloak_model.proofs.Emitting.{some_then}
use Rattle.joint_machine.specs.Standing.{step_in, turn_in}
use Rattle.joint_machine.proofs.AfterEnd.{answers_as, goes_step, takes_step}
use Rattle.joint_machine.proofs.Clashed.{before_end}
use Rattle.joint_machine.proofs.Mapped.{step_mapped}
use Rattle.joint_machine.proofs.Turns.{hart_is}
use Rattle.joint_machine.proofs.joint.Joint.turn.Goals as goal

pub returns-clause-emits_some : goal.returns-clause-emits_some
returns-clause-emits_some g c = some_then c.step-ended.ensures.emits_some
    c.answer_any.ensures.emits_some

pub returns-clause-turns : goal.returns-clause-turns
returns-clause-turns g c j s unclashed =
    let h = c.behind-self.view_is
    ∙ hart_is c.args.self.now.harts.items j.harts c.args.number c.index.result.now s.harts c.requires
    c.index.ensures in
    let step = c.step-ended.ensures.turns j s (before_end j c.args.number unclashed) in
    takes_step g.E.Emit.gave _ c.step-ended.new.e _ c.step-ended.new.self c.answer_any.new.self c.step-ended.result _
    (turn_in j c.args.number) (step_in j c.args.number) step
    (answers_as g.E.Emit.gave _ _ c.answer_any.new.self _ _ _ _ (turn_in j c.args.number)
    (ap (λ (x : Hart). x.inside) h) step.violation
    (c.answer_any.ensures.ends (turn_in j c.args.number) step.stands)) refl c.stop.ensures

pub returns-clause-goes : goal.returns-clause-goes
returns-clause-goes g c j s unclashed =
    let h = c.behind-self.view_is
    ∙ hart_is c.args.self.now.harts.items j.harts c.args.number c.index.result.now s.harts c.requires
    c.index.ensures in
    let none = before_end j c.args.number unclashed in
    let step = c.step-ended.ensures.turns j s none in
    goes_step c.args.self.now.memory c.step-ended.new.self.memory c.answer_any.new.self.memory j
    (turn_in j c.args.number).joint c.args.number (hart_in j c.args.number) _ _
    (ap (λ (x : Hart). x.inside) h) step.violation (c.step-ended.ensures.goes j s none) c.answer_any.ensures.unmet
    (λ space some. c.answer_any.ensures.goes (turn_in j c.args.number).joint space step.stands some)

pub returns-clause-maps : goal.returns-clause-maps
returns-clause-maps g c j s unclashed are =
    step_mapped c.args.self.now.memory c.answer_any.new.self.memory j c.args.number
    (returns-clause-goes g c j s unclashed)
    (c.step-ended.ensures.makes j s) are
