use Rattle.std.proofs.Common.{◌∙◌, ap}
use Rattle.std.specs.Prelude.{is_some}
use Rattle.thread_context.proofs.Reserving.{none_marked-lent}
use Rattle.hypercalls.proofs.Fitted.{fits_changed}
use Rattle.hypercalls.proofs.control.Control.copy.Goals as goal

pub invariant_of-self : goal.invariant_of-self
invariant_of-self g c = (
  fits_changed _ c.args.slot _ _ c.self.invariant.0 c.get_mut-c.ensures.value c.copy_step.ensures.context.same_space c.copy_step.ensures.context.same_hart,
  λ unreserved. none_marked-lent _ c.args.slot _ _ c.get_mut-c.ensures.value (λ unmarked. ap is_some c.copy_step.ensures.same_mark ∙ unmarked) (c.self.invariant.1 unreserved),
)
