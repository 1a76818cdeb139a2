use Rattle.std.proofs.Common.{◌∙◌, ap}
use Rattle.cloak_model.specs.Contexts.{Context}
use Rattle.hypercalls.proofs.Fitted.{fits_changed, fits_left}
use Rattle.hypercalls.proofs.control.Control.kernel_call.Goals.{in-Err, in-Ok-Copying, in-Ok-Leave}
use Rattle.hypercalls.proofs.control.Control.kernel_call.Goals as goal

pub invariant_of-self : goal.invariant_of-self
invariant_of-self c = elim c.match-begin.branch [
  | in-Err w ↦ rw w.self-inside-is (
    fits_changed (record { number = c.self.inside.number; contexts = c.self.inside.contexts; resources = c.self.inside.resources; ended = c.self.inside.ended }) c.args.slot _ _ c.self.invariant.0 c.get_mut-c.ensures.value
        (ap (λ (x : Context). x.space) w.c-in-Err.view_is ∙ c.begin.ensures.same_space ∙ ap (λ (x : Context). x.space) c.c.view_is)
        (ap (λ (x : Context). x.on) w.c-in-Err.view_is ∙ c.begin.ensures.same_hart ∙ ap (λ (x : Context). x.on) c.c.view_is),
    λ never. cc,
  )
  | in-Ok-Copying w ↦ rw w.self-inside-is (
    fits_changed (record { number = c.self.inside.number; contexts = c.self.inside.contexts; resources = c.self.inside.resources; ended = c.self.inside.ended }) c.args.slot _ _ c.self.invariant.0 c.get_mut-c.ensures.value
        (c.begin.ensures.same_space ∙ ap (λ (x : Context). x.space) c.c.view_is)
        (c.begin.ensures.same_hart ∙ ap (λ (x : Context). x.on) c.c.view_is),
    λ never. cc,
  )
  | in-Ok-Leave w ↦ rw w.self-inside-is (
    fits_left (record { number = c.self.inside.number; contexts = c.self.inside.contexts; resources = c.self.inside.resources; ended = c.self.inside.ended }) c.args.slot _ _ c.self.invariant.0 c.get_mut-c.ensures.value
        (ap (λ (x : Context). x.space) w.leave_hart.ensures.context ∙ c.begin.ensures.same_space ∙ ap (λ (x : Context). x.space) c.c.view_is)
        (ap (λ (x : Context). x.on) w.leave_hart.ensures.context),
    λ never. cc,
  )
]
