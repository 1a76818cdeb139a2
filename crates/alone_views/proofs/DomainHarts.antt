-- The hart of a step, and the slot of the context that runs on it.
use Rattle.std.proofs.Common.{◌≡◌, ◌<◌, ◌≤◌, ◌+◌, ◌∙◌, ℕ, Bool, true, false, cond, List, length, drop, Option, Some, None, refl, ap, add-one, drop-cons}
use Rattle.std.proofs.Math.ListN.{drop_of_length-le}
use Rattle.cloak_model.specs.Contexts.{Context, context_at}
use Rattle.cloak_model.specs.DomainAlone.{runs_on, slot_on}

-- the slots from one on, by the context there
slot_on-here : (hart slot : ℕ) (contexts : List (Option Context)) → slot < length contexts →
    slot_on hart slot (drop slot contexts) ≡ cond (runs_on hart (context_at contexts slot)) (Some slot) (slot_on hart (slot + 1) (drop (slot + 1) contexts))
unfolding slot_on
slot_on-here hart slot contexts low = rw (drop-cons contexts slot None, add-one) refl

pub slot_on-runs : (hart slot : ℕ) (contexts : List (Option Context)) → slot < length contexts → runs_on hart (context_at contexts slot) ≡ true →
    slot_on hart slot (drop slot contexts) ≡ Some slot
slot_on-runs hart slot contexts low runs = slot_on-here hart slot contexts low ∙ ap (λ (b : Bool). cond b (Some slot) (slot_on hart (slot + 1) (drop (slot + 1) contexts))) runs

pub slot_on-other : (hart slot : ℕ) (contexts : List (Option Context)) → slot < length contexts → runs_on hart (context_at contexts slot) ≡ false →
    slot_on hart slot (drop slot contexts) ≡ slot_on hart (slot + 1) (drop (slot + 1) contexts)
slot_on-other hart slot contexts low other = slot_on-here hart slot contexts low ∙ ap (λ (b : Bool). cond b (Some slot) (slot_on hart (slot + 1) (drop (slot + 1) contexts))) other

pub slot_on-none : (hart slot : ℕ) (contexts : List (Option Context)) → length contexts ≤ slot → slot_on hart slot (drop slot contexts) ≡ None
unfolding slot_on
slot_on-none hart slot contexts over = ap (λ (rest : List (Option Context)). slot_on hart slot rest) (drop_of_length-le contexts over)
