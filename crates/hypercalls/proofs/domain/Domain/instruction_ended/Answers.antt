use Rattle.hypercalls.proofs.Stepping.{call_steps}
use Rattle.hypercalls.proofs.domain.Domain.instruction_ended.Goals as goal

pub returns-in-Ecall-clause-steps : goal.returns-in-Ecall-clause-steps
returns-in-Ecall-clause-steps g c =
    call_steps g.M.PageSide.stands_for _ _ c.args.self.now c.call.new.self c.call.new.went c.args.slot _ c.args.ran.now c.in-Ecall.is
    c.call.ensures.loads c.call.ensures.follows
