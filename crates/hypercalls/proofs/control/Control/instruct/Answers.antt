use Rattle.thread_context.proofs.Reserving.{none_marked-lent}
use Rattle.hypercalls.proofs.Fitted.{fits_changed}
use Rattle.hypercalls.proofs.control.Control.instruct.Goals as goal

pub invariant_of-self : goal.invariant_of-self
invariant_of-self g c = (
  fits_changed _ c.args.slot _ _ c.self.invariant.0 c.get_mut-c.ensures.value c.instruction_step.ensures.context.same_space c.instruction_step.ensures.context.same_hart,
  λ untold. let tells = c.instruction_step.ensures.tells untold in
      none_marked-lent _ c.args.slot _ _ c.get_mut-c.ensures.value tells.1 (c.self.invariant.1 tells.0),
)
