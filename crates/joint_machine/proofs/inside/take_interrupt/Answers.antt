use Rattle.cloak_model.proofs.Emitting.{emits_then}
use Rattle.joint_machine.proofs.Insides.{interrupts_out}
use Rattle.joint_machine.proofs.inside.take_interrupt.Goals as goal

pub returns-clause-emits_some : goal.returns-clause-emits_some
returns-clause-emits_some g c = (_, emits_then c.item.ensures c.leave_context.ensures.emits)

pub returns-clause-interrupts : goal.returns-clause-interrupts
returns-clause-interrupts g c j was stands =
    interrupts_out g.E.Emit.gave _ _ _ c.args.h.now _ c.interrupt-shown.new.self c.interrupt-shown.result j c.args.number c.args.d c.args.slot was
    (c.interrupt-shown.ensures.interrupts was stands) c.leave_context.ensures.hart c.item.ensures c.leave_context.ensures.emits
