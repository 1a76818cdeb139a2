-- What is read of a page fits together.
use Rattle.std.proofs.Common.{◌≡◌, ◌<◌, ℕ, Bool, List, Option, Some, None, refl, ap, sym}
use Rattle.std.specs.Prelude.{IfSome}
use Rattle.cloak_model.specs.Contexts.{Context, context_at}
use Rattle.cloak_model.specs.DomainState.{Control}
use Rattle.cloak_model.specs.Resources.{Resources}
use Rattle.domain_page.specs.Reading.{IsRead, program_of}
use Rattle.frozen_state.specs.Limits.{IsContext, KeepsLimits}
use Rattle.resource_map.specs.Kept.{IsInUse}
use Rattle.hypercalls.specs.Fitting.{IsFitting}
use Rattle.domain_page.specs.Writing.{HasHart}
use Rattle.hypercalls.specs.Paging.{IsReadAs}

in_use : (r : Resources) (o : Option Context) → IfSome o (IsContext r) → IfSome o (λ c. IsInUse r c.space)
in_use r None is = tt
in_use r (Some c) is = is.space

on_hart : (r : Resources) (o : Option Context) → IfSome o (IsContext r) → IfSome o (λ c. HasHart c.on)
on_hart r None is = tt
on_hart r (Some c) is = is.hart

pub fits_read : (number : ℕ) (contexts : List (Option Context)) (resources : Resources) (ended : Bool) → number < 4 →
    KeepsLimits (program_of number contexts resources) →
    IsFitting (record { number = number; contexts = contexts; resources = resources; ended = ended })
fits_read number contexts resources ended few keeps = record {
  number = few;
  spaces = λ slot. in_use resources (context_at contexts slot) (keeps.contexts slot);
  harts = λ slot. on_hart resources (context_at contexts slot) (keeps.contexts slot);
}

pub read_as : (number : ℕ) (bytes : List ℕ) (contexts : List (Option Context)) (resources : Resources) (ended : Bool) →
    IsRead bytes contexts resources →
    IsReadAs number ended bytes (record { number = number; contexts = contexts; resources = resources; ended = ended })
read_as number bytes contexts resources ended is = record {
  page = is.page number;
  told = refl;
  one = λ d page. sym (ap (λ (other : Control). record other { ended = ended }) (is.one number d page));
}
