use Rattle.std.proofs.Common.{refl}
use Rattle.joint_machine.proofs.Gone.{goes_inside, goes_stopped, goes_out, goes_away, roots_forgotten}
use Rattle.joint_machine.proofs.going.go_on.Goals as goal

pub returns-in-Stay-clause-goes_on : goal.returns-in-Stay-clause-goes_on
returns-in-Stay-clause-goes_on g c j w met are =
    goes_inside g.E.Emit.gave _ c.args.h.now c.args.domain _ c.args.memory.now _ j c.args.number w _ c.in-Stay.is refl are

pub returns-in-Stay-2-clause-goes_on : goal.returns-in-Stay-2-clause-goes_on
returns-in-Stay-2-clause-goes_on g c j w met are =
    goes_inside g.E.Emit.gave _ c.args.h.now c.args.domain _ c.args.memory.now _ j c.args.number w _ c.in-Stay.is refl are

pub returns-in-Stopped-clause-goes_on : goal.returns-in-Stopped-clause-goes_on
returns-in-Stopped-clause-goes_on g c j w met are =
    goes_stopped g.E.Emit.gave _ c.args.h.now c.args.domain _ c.args.memory.now _ j c.args.number w _ c.in-Stopped.is met are

pub returns-in-Leave-clause-goes_on : goal.returns-in-Leave-clause-goes_on
returns-in-Leave-clause-goes_on g c j w met are =
    goes_out g.E.Emit.gave _ c.args.h.now c.args.domain _ c.args.memory.now _ j c.args.number w _ _ _ _
    c.leave_context.new.memory c.leave_context.ensures.unmarks c.in-Leave.is refl are c.leave_context.ensures.hart
    c.leave_context.ensures.emits

pub returns-in-SpaceGone-clause-goes_on : goal.returns-in-SpaceGone-clause-goes_on
returns-in-SpaceGone-clause-goes_on g c j w met are =
    goes_away g.E.Emit.gave _ c.args.h.now c.args.domain _ c.args.memory.now _ j c.args.number w _ c.in-SpaceGone.space
    c.in-SpaceGone.s _ _ c.leave_context-in-SpaceGone.new.memory c.leave_context-in-SpaceGone.ensures.unmarks
    c.in-SpaceGone.is refl
    (roots_forgotten c.args.roots.now _ _ j.memory.ledger.root are c.forget.ensures.each) c.leave_context-in-SpaceGone.ensures.hart c.leave_context-in-SpaceGone.ensures.emits
