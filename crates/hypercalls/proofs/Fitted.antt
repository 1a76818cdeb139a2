-- Contexts and resources fit together after each change.
use Rattle.std.proofs.Common.{◌≡◌, ◌<◌, ◌∙◌, ℕ, zero, suc, Bool, true, false, cond, List, [], ◌∷◌, Option, Some, None, Ok, Err, refl, ap, sym, subst, map, slice_index_or, slice_set}
use Rattle.std.specs.Prelude.{IfSome, is_some}
use Rattle.cloak_base.specs.declared.names.HartId.{HartId}
use Rattle.cloak_model.specs.declared.context.ResumeFault.TheVariants.{Busy}
use Rattle.cloak_model.specs.Contexts.{Context, Resumed, context_at, with_context, end_at, started_contexts, is_reserved, unless_reserved, resume_if, resume_at}
use Rattle.cloak_model.specs.declared.context.PageWord.{PageWord}
use Rattle.cloak_model.specs.Resources.{Resources, started_resources}
use Rattle.cloak_model.specs.DomainState.{Control}
use Rattle.cloak_model.specs.Hypercalls.{with_slot}
use Rattle.resource_map.specs.Kept.{IsInUse}
use Rattle.resource_map.specs.Owning.{SameSpaces}
use Rattle.resource_map.proofs.Lists.{get_or-replicate_none}
use Rattle.domain_page.specs.Writing.{HasHart}
use Rattle.cloaked_fork.specs.Homes.{AllInUse}
use Rattle.cloak_model.specs.Fork.{Spaces}
use Rattle.cloak_model.specs.Fork as forking
use Rattle.cloaked_fork.specs.Left.{spaces, forked_spaces, lowest}
use Rattle.hypercalls.specs.Fitting.{AllOnHarts, IsFitting}

-- what holds of each that is there still holds with one more of which it holds
each_with : {A : Type 0} (P : A → Type 0) (xs : List (Option A)) (i : ℕ) (x : A) → P x → ((k : ℕ) → IfSome (slice_index_or xs k None) P) → (k : ℕ) → IfSome (slice_index_or (slice_set xs i (Some x)) k None) P
each_with P [] i x holds each k = each k
each_with P (y ∷ xs) zero x holds each zero = holds
each_with P (y ∷ xs) zero x holds each (suc k) = each (suc k)
each_with P (y ∷ xs) (suc i) x holds each zero = each zero
each_with P (y ∷ xs) (suc i) x holds each (suc k) = each_with P xs i x holds (λ n. each (suc n)) k

no_hart : HasHart None
no_hart = tt

some_hart : (hart : ℕ) → hart < 4 → HasHart (Some (record { 0 = hart }))
some_hart hart few = few

some_holds : {A : Type 0} (P : A → Type 0) (o : Option A) (x : A) → o ≡ Some x → IfSome o P → P x
some_holds P o x is holds = subst (λ o. IfSome o P) is holds

-- one more context, or another one in its slot
pub fits_slot : (d : Control) (slot : ℕ) (c : Context) → IsFitting d → IsInUse d.resources c.space → HasHart c.on → IsFitting (with_slot slot c d)
fits_slot d slot c fits in_use hart = record {
  number = fits.number;
  spaces = each_with (λ x. IsInUse d.resources x.space) d.contexts slot c in_use fits.spaces;
  harts = each_with (λ x. HasHart x.on) d.contexts slot c hart fits.harts;
}

-- the context of a slot changed, but neither its space nor its hart
pub fits_changed : (d : Control) (slot : ℕ) (c changed : Context) → IsFitting d → context_at d.contexts slot ≡ Some c → changed.space ≡ c.space → changed.on ≡ c.on → IsFitting (with_slot slot changed d)
fits_changed d slot c changed fits there same_space same_hart =
    fits_slot d slot changed fits
    (subst (IsInUse d.resources) (sym same_space) (some_holds (λ x. IsInUse d.resources x.space) _ c there (fits.spaces slot)))
    (subst HasHart (sym same_hart) (some_holds (λ x. HasHart x.on) _ c there (fits.harts slot)))

-- the context of a slot left its hart
pub fits_left : (d : Control) (slot : ℕ) (c changed : Context) → IsFitting d → context_at d.contexts slot ≡ Some c → changed.space ≡ c.space → changed.on ≡ None → IsFitting (with_slot slot changed d)
fits_left d slot c changed fits there same_space left =
    fits_slot d slot changed fits
    (subst (IsInUse d.resources) (sym same_space) (some_holds (λ x. IsInUse d.resources x.space) _ c there (fits.spaces slot))) (subst HasHart (sym left) no_hart)

-- a context runs on a hart, if it is there and runs on none
either_way : (P : Context → Type 0) (b : Bool) (m n : Resumed) (k : ℕ) → IfSome (context_at m.contexts k) P → IfSome (context_at n.contexts k) P → IfSome (context_at (cond b m n).contexts k) P
either_way P true m n k p q = p
either_way P false m n k p q = q

resumed_each : (P : Context → Type 0) (slot hart : ℕ) (contexts : List (Option Context)) (o : Option Context) → ((c : Context) → P c → P (record c { on = Some (record { 0 = hart }) })) → IfSome o P
    → ((k : ℕ) → IfSome (context_at contexts k) P) → (k : ℕ) → IfSome (context_at (resume_if slot hart o contexts).contexts k) P
unfolding resume_if
resumed_each P slot hart contexts None kept holds each k = each k
resumed_each P slot hart contexts (Some c) kept holds each k =
    either_way P (is_some c.on) (record { answer = Err Busy; contexts = contexts }) (record { answer = Ok tt; contexts = with_context slot (record c { on = Some (record { 0 = hart }) }) contexts }) k
    (each k) (each_with P contexts slot _ (kept c holds) each k)

pub fits_resumed : (d : Control) (slot hart : ℕ) (contexts : List (Option Context)) → hart < 4 → IsFitting d → contexts ≡ (resume_at slot hart d.contexts).contexts → IsFitting (record d { contexts = contexts })
unfolding resume_at
fits_resumed d slot hart contexts few fits is = record {
  number = fits.number;
  spaces = subst (λ xs. AllInUse xs d.resources) (sym is) (resumed_each (λ c. IsInUse d.resources c.space) slot hart d.contexts _ (λ c holds. holds) (fits.spaces slot) fits.spaces);
  harts = subst AllOnHarts (sym is) (resumed_each (λ c. HasHart c.on) slot hart d.contexts _ (λ c holds. some_hart hart few) (fits.harts slot) fits.harts);
}

-- reservations of a word ended
either_context : (P : Context → Type 0) (b : Bool) (c other : Context) → P c → P other → P (cond b c other)
either_context P true c other holds holds_too = holds
either_context P false c other holds holds_too = holds_too

released : (P : Context → Type 0) (word : PageWord) (o : Option Context) → ((c : Context) → P c → P (record c { mark = None })) → IfSome o P → IfSome (unless_reserved word o) P
released P word None kept holds = tt
released P word (Some c) kept holds = either_context P (is_reserved word c.mark) (record c { mark = None }) c (kept c holds) holds

released_each : (P : Context → Type 0) (word : PageWord) (contexts : List (Option Context)) → ((c : Context) → P c → P (record c { mark = None })) → ((k : ℕ) → IfSome (context_at contexts k) P)
    → (k : ℕ) → IfSome (context_at (map (unless_reserved word) contexts) k) P
released_each P word [] kept each k = each k
released_each P word (o ∷ rest) kept each zero = released P word o kept (each zero)
released_each P word (o ∷ rest) kept each (suc k) = released_each P word rest kept (λ n. each (suc n)) k

pub fits_written : (d : Control) (word : PageWord) (contexts : List (Option Context)) → IsFitting d → contexts ≡ map (unless_reserved word) d.contexts → IsFitting (record d { contexts = contexts })
fits_written d word contexts fits is = record {
  number = fits.number;
  spaces = subst (λ xs. AllInUse xs d.resources) (sym is) (released_each (λ c. IsInUse d.resources c.space) word d.contexts (λ c holds. holds) fits.spaces);
  harts = subst AllOnHarts (sym is) (released_each (λ c. HasHart c.on) word d.contexts (λ c holds. holds) fits.harts);
}

-- a program as it begins
spaces_at_start : (pc sp pages base : ℕ) → AllInUse (started_contexts pc sp) (started_resources pages base)
unfolding started_contexts started_resources
spaces_at_start pc sp pages base zero = refl
spaces_at_start pc sp pages base (suc slot) = subst (λ o. IfSome o (λ (c : Context). IsInUse (started_resources pages base) c.space)) (sym (get_or-replicate_none 7 slot)) tt

harts_at_start : (pc sp : ℕ) → AllOnHarts (started_contexts pc sp)
unfolding started_contexts
harts_at_start pc sp zero = no_hart
harts_at_start pc sp (suc slot) = subst (λ o. IfSome o (λ (c : Context). HasHart c.on)) (sym (get_or-replicate_none 7 slot)) tt

pub fits_started : (number pc sp pages base : ℕ) → number < 4 → IsFitting (record { number = number; contexts = started_contexts pc sp; resources = started_resources pages base; ended = false })
fits_started number pc sp pages base few = record { number = few; spaces = spaces_at_start pc sp pages base; harts = harts_at_start pc sp }

-- resources change, and the same spaces are in use
pub fits_with : (d : Control) (r : Resources) → IsFitting d → SameSpaces d.resources r → IsFitting (record d { resources = r })
fits_with d r fits same = record {
  number = fits.number;
  spaces = λ slot. carried (context_at d.contexts slot) (fits.spaces slot);
  harts = fits.harts;
}
  where
    carried : (o : Option Context) → IfSome o (λ c. IsInUse d.resources c.space) → IfSome o (λ c. IsInUse r c.space)
    carried None holds = tt
    carried (Some c) holds = same c.space ∙ holds

pub ruleset changes = (fits_changed, fits_left)

-- a fork or an end leaves contexts and resources
pub fits_spaces : (d : Control) (contexts : List (Option Context)) (r : Resources) → IsFitting d → AllInUse contexts r → AllOnHarts contexts → IsFitting (record { number = d.number; contexts = contexts; resources = r; ended = d.ended })
fits_spaces d contexts r fits spaces harts = record { number = fits.number; spaces = spaces; harts = harts }

-- a new context that runs on no hart
pub harts_with : (contexts : List (Option Context)) (slot : ℕ) (c : Context) → c.on ≡ None → AllOnHarts contexts → AllOnHarts (with_context slot c contexts)
harts_with contexts slot c none each = each_with (λ x. HasHart x.on) contexts slot c (subst HasHart (sym none) no_hart) each

-- a slot is free now
each_without : {A : Type 0} (P : A → Type 0) (xs : List (Option A)) (i : ℕ) → ((k : ℕ) → IfSome (slice_index_or xs k None) P) → (k : ℕ) → IfSome (slice_index_or (slice_set xs i None) k None) P
each_without P [] i each k = each k
each_without P (y ∷ xs) zero each zero = tt
each_without P (y ∷ xs) zero each (suc k) = each (suc k)
each_without P (y ∷ xs) (suc i) each zero = each zero
each_without P (y ∷ xs) (suc i) each (suc k) = each_without P xs i (λ n. each (suc n)) k

pub harts_without : (contexts : List (Option Context)) (slot : ℕ) → AllOnHarts contexts → AllOnHarts (end_at slot contexts)
harts_without contexts slot each = each_without (λ x. HasHart x.on) contexts slot each

-- a fork put a context into a slot that runs on no hart
pub fits_forked : (d : Control) (contexts : List (Option Context)) (r : Resources) (c : Context) → IsFitting d → AllInUse contexts r → spaces contexts r ≡ forked_spaces c d.resources d.contexts → IsFitting (record { number = d.number; contexts = contexts; resources = r; ended = d.ended })
unfolding forking.forked
fits_forked d contexts r c fits in_use is =
    fits_spaces d contexts r fits in_use
    (subst AllOnHarts (sym (ap (λ (s : Spaces). s.contexts) is)) (harts_with d.contexts (lowest d.contexts) _ refl fits.harts))

-- an end freed a slot
pub fits_ended : (d : Control) (contexts : List (Option Context)) (r r' : Resources) (slot : ℕ) → IsFitting d → AllInUse contexts r → spaces contexts r ≡ spaces (end_at slot d.contexts) r' → IsFitting (record { number = d.number; contexts = contexts; resources = r; ended = d.ended })
fits_ended d contexts r r' slot fits in_use is =
    fits_spaces d contexts r fits in_use
    (subst AllOnHarts (sym (ap (λ (s : Spaces). s.contexts) is)) (harts_without d.contexts slot fits.harts))

-- all stayed
pub fits_same : (d : Control) (contexts : List (Option Context)) (r : Resources) → IsFitting d → spaces contexts r ≡ spaces d.contexts d.resources → IsFitting (record { number = d.number; contexts = contexts; resources = r; ended = d.ended })
fits_same d contexts r fits is = subst (λ (s : Spaces). IsFitting (record { number = d.number; contexts = s.contexts; resources = s.resources; ended = d.ended })) (sym is) fits

pub ruleset spaces_fit = (fits_forked, fits_ended, fits_same)
