use Rattle.std.proofs.Common.{refl, subst, sym}
use Rattle.cloak_model.specs.Joint.{outside_step}
use Rattle.cloak_model.proofs.Emitting.{some_then}
use Rattle.joint_machine.proofs.Turns.{ends_stay, ends_trapped, ends_put, ends_halt, ends_resumed}
use Rattle.cloak_model.specs.Joint.{hart_in}
use Rattle.cloaked_side.specs.Tracking.{GoesBy}
use Rattle.cloaked_side.specs.declared.memory.Memory.{Memory}
use Rattle.shadow_fold.specs.Events as events
use Rattle.joint_machine.proofs.joint.Joint.outside.Goals as goal

pub returns-in-Stay-clause-turns : goal.returns-in-Stay-clause-turns
unfolding outside_step
returns-in-Stay-clause-turns g c j s unclashed =
    ends_stay g.E.Emit.gave _ _ c.step_plainly.new.self _ _ j c.args.number _ (c.step_plainly.ensures.steps j s unclashed) c.in-Stay.is c.met.ensures

pub returns-in-Trapped-clause-turns : goal.returns-in-Trapped-clause-turns
unfolding outside_step
returns-in-Trapped-clause-turns g c j s unclashed =
    ends_trapped g.E.Emit.gave _ _ c.step_plainly.new.self _ _ j c.args.number _ (c.step_plainly.ensures.steps j s unclashed) c.in-Trapped.is c.met-in-Trapped.ensures

pub returns-in-Put-clause-turns : goal.returns-in-Put-clause-turns
unfolding outside_step
returns-in-Put-clause-turns g c j s unclashed =
    ends_put g.E.Emit.gave _ _ c.step_plainly.new.self _ _ j c.args.number _ (c.step_plainly.ensures.steps j s unclashed) c.in-Put.b c.in-Put.is refl

pub returns-in-Halt-clause-turns : goal.returns-in-Halt-clause-turns
unfolding outside_step
returns-in-Halt-clause-turns g c j s unclashed =
    ends_halt g.E.Emit.gave _ _ c.step_plainly.new.self _ _ j c.args.number _ (c.step_plainly.ensures.steps j s unclashed) c.in-Halt.value c.in-Halt.is refl

pub returns-in-Resume-clause-emits_some : goal.returns-in-Resume-clause-emits_some
returns-in-Resume-clause-emits_some g c = some_then c.step_plainly.ensures.emits_some c.resume.ensures.emits_some

pub returns-in-Resume-clause-turns : goal.returns-in-Resume-clause-turns
unfolding outside_step
returns-in-Resume-clause-turns g c j s unclashed =
    let steps = c.step_plainly.ensures.steps j s unclashed in
    ends_resumed g.E.Emit.gave _ _ c.step_plainly.new.self _ _ j c.args.number _ steps c.in-Resume.ctx c.in-Resume.answer _ c.resume.new.self c.resume.result c.in-Resume.is c.met-in-Resume.ensures
    (c.resume.ensures.resumes _ steps.stands)

pub returns-in-Resume-clause-goes : goal.returns-in-Resume-clause-goes
returns-in-Resume-clause-goes g c j s unclashed =
    subst (λ (m : Memory). GoesBy c.args.self.now.memory m (events.asked_outside j (hart_in j c.args.number))) (sym c.resume.ensures.memory)
    (c.step_plainly.ensures.goes j s unclashed)
