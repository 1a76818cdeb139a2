use Rattle.hypercalls.proofs.Fitted.{fits_started}
use Rattle.thread_context.proofs.Reserving.{none_marked-started}
use Rattle.hypercalls.proofs.control.Control.open.Goals as goal

pub invariant_of-result : goal.invariant_of-result
invariant_of-result c = rw (c.open.ensures, c.open-2.ensures.value) (fits_started _ _ _ _ _ c.requires.number, λ unreserved. none_marked-started c.args.p.now.entry c.args.p.now.sp)
