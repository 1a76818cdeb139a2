use Rattle.std.proofs.Common.{ap}
use Rattle.cloak_model.specs.Contexts.{Resumed}
use Rattle.hypercalls.proofs.Fitted.{fits_resumed}
use Rattle.hypercalls.proofs.control.Control.resume.Goals as goal

pub invariant_of-self-2 : goal.invariant_of-self-2
invariant_of-self-2 c = (fits_resumed _ c.args.slot c.args.h.0 _ c.requires c.self.invariant.0 (ap (λ (r : Resumed). r.contexts) c.in_ok-resume.ensures.as_defined), λ never. cc)
