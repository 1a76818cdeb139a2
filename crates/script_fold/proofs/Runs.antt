-- Which contexts of a program run on which harts, and what a step makes of that.
use Rattle.std.proofs.Common.{◌≡◌, ◌≢◌, ◌<◌, ◌∙◌, not, nat_lt, length, ltb-true, ℕ, zero, suc, Bool, true, false, cond, List, [], ◌∷◌, Option, Some, None, refl, ap, sym, if◌then◌else◌}
use Rattle.std.specs.Prelude.{slice_set, slice_index_or, is_none, is_some, unwrap_or, map}
use Rattle.std.specs.List.{prefix_len}
use Rattle.std.proofs.lemmas.List.Sums.{prefix_len_stops}
use Rattle.cloak_model.specs.declared.inside.Went.{Went}
use Rattle.cloak_model.specs.declared.inside.Went.TheVariants as went
use Rattle.cloak_model.specs.Contexts.{Context, context_at, suspended, with_context, end_at, unless_reserved, is_reserved}
use Rattle.cloak_model.specs.Resources.{first_free}
use Rattle.cloak_model.specs.DomainState.{Control}
use Rattle.cloak_model.specs.Hypercalls.{with_slot}
use Rattle.cloak_model.specs.DomainAlone.{is_hart, runs_on}
use Rattle.cloak_model.specs.declared.context.PageWord.{PageWord}

-- the context of a slot runs on a hart
abbrev pub runs_in : ℕ → List (Option Context) → ℕ → Bool
runs_in hart contexts slot = runs_on hart (context_at contexts slot)

-- a slot with a context that runs where the one before it ran
pub set_same : (hart : ℕ) (contexts : List (Option Context)) (slot : ℕ) (o : Option Context) →
    runs_on hart o ≡ runs_in hart contexts slot → (s : ℕ) →
    runs_in hart (slice_set contexts slot o) s ≡ runs_in hart contexts s
set_same hart [] slot o same s = refl
set_same hart (c ∷ contexts) zero o same zero = same
set_same hart (c ∷ contexts) zero o same (suc s) = refl
set_same hart (c ∷ contexts) (suc slot) o same zero = refl
set_same hart (c ∷ contexts) (suc slot) o same (suc s) = set_same hart contexts slot o same s

pub set_others : (hart : ℕ) (contexts : List (Option Context)) (slot : ℕ) (o : Option Context) (s : ℕ) → s ≢ slot →
    runs_in hart (slice_set contexts slot o) s ≡ runs_in hart contexts s
set_others hart [] slot o s other = refl
set_others hart (c ∷ contexts) zero o zero other = absurd (other refl)
set_others hart (c ∷ contexts) zero o (suc s) other = refl
set_others hart (c ∷ contexts) (suc slot) o zero other = refl
set_others hart (c ∷ contexts) (suc slot) o (suc s) other =
    set_others hart contexts slot o s (λ same. other (ap suc same))

pub set_idle : (hart : ℕ) (contexts : List (Option Context)) (slot : ℕ) (o : Option Context) → runs_on hart o ≡ false →
    runs_in hart (slice_set contexts slot o) slot ≡ false
set_idle hart [] slot o idle = refl
set_idle hart (c ∷ contexts) zero o idle = idle
set_idle hart (c ∷ contexts) (suc slot) o idle = set_idle hart contexts slot o idle

-- the lowest slot that is free runs nothing

none_idle : (hart : ℕ) (o : Option Context) → not (is_none o) ≡ false → runs_on hart o ≡ false
none_idle hart None is = refl
none_idle hart (Some c) is = absurd cc

idle_if : (hart : ℕ) (contexts : List (Option Context)) (n : ℕ) (within : Bool) → nat_lt n (length contexts) ≡ within →
    (n < length contexts → runs_in hart contexts n ≡ false) → is_some (cond within (Some n) None) ≡ true →
    runs_in hart contexts (unwrap_or (cond within (Some n) None) 0) ≡ false
idle_if hart contexts n true is idle some = idle (ltb-true n (length contexts) is)
idle_if hart contexts n false is idle some = absurd cc

free_idle : (hart : ℕ) (contexts : List (Option Context)) → is_some (first_free contexts) ≡ true →
    runs_in hart contexts (unwrap_or (first_free contexts) 0) ≡ false
free_idle hart contexts free =
    let test : Option Context → Bool = λ o. not (is_none o) in
    let n = prefix_len test contexts in
    idle_if hart contexts n (nat_lt n (length contexts)) refl
    (λ within. none_idle hart (slice_index_or contexts n None) (prefix_len_stops test contexts None within)) free

-- a step of a slot, after which its context runs on no hart if it left
pub record MovesSlot (slot : ℕ) (left : Bool) (old new : Control) : Type 0 where
  pub number : new.number ≡ old.number
  pub others : (hart s : ℕ) → s ≢ slot → runs_in hart new.contexts s ≡ runs_in hart old.contexts s
  pub own : (hart : ℕ) → runs_in hart new.contexts slot ≡ (if left then false else runs_in hart old.contexts slot)

-- the same contexts run
pub record RunsTheSame (old new : Control) : Type 0 where
  pub number : new.number ≡ old.number
  pub each : (hart s : ℕ) → runs_in hart new.contexts s ≡ runs_in hart old.contexts s

-- the context is what a slot's became, on the same hart
abbrev pub IsOnAs : ℕ → Context → Control → Type 0
IsOnAs slot c d = (hart : ℕ) → runs_on hart (Some c) ≡ runs_in hart d.contexts slot

pub slot_kept : (slot : ℕ) (d : Control) → MovesSlot slot false d d
slot_kept slot d = record { number = refl; others = λ hart s other. refl; own = λ hart. refl }

-- it goes on, after a change that left all running as it was
pub slot_goes_on : (slot : ℕ) (c : Context) (d d' : Control) → IsOnAs slot c d → RunsTheSame d d' →
    MovesSlot slot false d (with_slot slot c d')
slot_goes_on slot c d d' on same =
    let each : (hart s : ℕ) → runs_in hart (with_slot slot c d').contexts s ≡ runs_in hart d.contexts s =
    λ hart s. set_same hart d'.contexts slot (Some c) (on hart ∙ sym (same.each hart slot)) s ∙ same.each hart s in
    record { number = same.number; others = λ hart s other. each hart s; own = λ hart. each hart slot }

pub slot_left : (slot : ℕ) (c : Context) (d : Control) → MovesSlot slot true d (with_slot slot (suspended c) d)
slot_left slot c d = record {
  number = refl;
  others = λ hart s other. set_others hart d.contexts slot (Some (suspended c)) s other;
  own = λ hart. set_idle hart d.contexts slot (Some (suspended c)) refl;
}

pub slot_ended : (slot : ℕ) (d d' : Control) → d'.number ≡ d.number → d'.contexts ≡ end_at slot d.contexts →
    MovesSlot slot true d d'
slot_ended slot d d' number is = record {
  number = number;
  others = λ hart s other. ap (λ (contexts : List (Option Context)). runs_in hart contexts s) is
      ∙ set_others hart d.contexts slot None s other;
  own = λ hart. ap (λ (contexts : List (Option Context)). runs_in hart contexts slot) is
      ∙ set_idle hart d.contexts slot None refl;
}

-- a context that runs on no hart in a free slot
pub free_taken : (c : Context) (contexts : List (Option Context)) → c.on ≡ None → is_some (first_free contexts) ≡ true →
    (hart s : ℕ) → runs_in hart (with_context (unwrap_or
    (first_free contexts) 0) c contexts) s ≡ runs_in hart contexts s
free_taken c contexts idle free hart s =
    set_same hart contexts (unwrap_or (first_free contexts) 0) (Some c)
    (ap (is_hart hart) idle ∙ sym (free_idle hart contexts free)) s

-- A word of a page is written in: reservations end, and the same contexts run.

mark_ended : (hart : ℕ) (ends : Bool) (c : Context) →
    runs_on hart (Some (cond ends (record c { mark = None }) c)) ≡ runs_on hart (Some c)
mark_ended hart true c = refl
mark_ended hart false c = refl

written_same : (hart : ℕ) (place : PageWord) (contexts : List (Option Context)) (s : ℕ) →
    runs_in hart (map (unless_reserved place) contexts) s ≡ runs_in hart contexts s
written_same hart place [] s = refl
written_same hart place (None ∷ contexts) zero = refl
written_same hart place (Some c ∷ contexts) zero = mark_ended hart (is_reserved place c.mark) c
written_same hart place (c ∷ contexts) (suc s) = written_same hart place contexts s

pub slot_written : (slot : ℕ) (left : Bool) (place : PageWord) (old new : Control) → MovesSlot slot left old new →
    MovesSlot slot left old (record new { contexts = map (unless_reserved place) new.contexts })
slot_written slot left place old new moves = record {
  number = moves.number;
  others = λ hart s other. written_same hart place new.contexts s ∙ moves.others hart s other;
  own = λ hart. written_same hart place new.contexts slot ∙ moves.own hart;
}

-- the context left its hart
abbrev pub has_left : Went → Bool
has_left went.Stay = false
has_left went.Stopped = false
has_left (went.Remapped space) = false
has_left (went.Leave s) = true
has_left (went.SpaceGone space s) = true
