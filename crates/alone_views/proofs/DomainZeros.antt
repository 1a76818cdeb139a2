-- Every page of a domain that has ended is zeros.
use Rattle.std.proofs.Common.{◌≡◌, ◌∙◌, ◌<◌, ◌||◌, ℕ, zero, suc, Bool, true, false, cond, List, [], ◌∷◌, eq-eqb, ne_eqb, refl, inl, inr, arith}
use Rattle.std.specs.Prelude.{nat_eq}
use Rattle.std.specs.List.{list_any}
use Rattle.std.proofs.lemmas.List.Folds.{list_any-append}
use Rattle.std.proofs.lemmas.Bool.{cases_eq}
use Rattle.cloak_base.specs.Pages.{zero_page, is_of}
use Rattle.cloak_model.specs.AskPages.{ask_forget}
use Rattle.cloak_model.specs.DomainAlone.{handed_of}
use Rattle.cloak_model.specs.Ending.{ask_end, settled_for}
use Rattle.cloak_model.specs.Fork.{forget_each}
use Rattle.cloak_model.specs.Opening.{numbers_below}
use Rattle.cloak_model.specs.World.{Alone, Handed}
use Rattle.cloak_model.specs.Script.{played}
use Rattle.alone_views.specs.DomainPages.{ended_plain}

-- a page after resources were forgotten
abbrev page_after : ℕ → List ℕ → Handed → ℕ → ℕ → List ℕ
page_after d numbers h resource page = (handed_of (played (forget_each d numbers) (Alone h)).world).plain resource page

-- the pages after one resource was forgotten
abbrev without : ℕ → ℕ → Handed → Handed
without d n h = handed_of (ask_forget d n (Alone h)).world

either_page : (b : Bool) (bytes : List ℕ) → bytes ≡ zero_page → cond b zero_page bytes ≡ zero_page
either_page true bytes is = refl
either_page false bytes is = is

-- zeros stay zeros
stay_zeros : (d : ℕ) (numbers : List ℕ) (h : Handed) (resource page : ℕ) → h.plain resource page ≡ zero_page → page_after d numbers h resource page ≡ zero_page
unfolding forget_each ask_forget
stay_zeros d [] h resource page is = is
stay_zeros d (n ∷ numbers) h resource page is =
    stay_zeros d numbers (without d n h) resource page
    (either_page (is_of d n (record { domain = d; resource = resource; page = page })) (h.plain resource page) is)

rest_true : (a b : Bool) → a ≡ false → (a || b) ≡ true → b ≡ true
rest_true true b not_so is = cc
rest_true false b not_so is = is

either_true : (b : Bool) → (b || (true || false)) ≡ true
either_true true = refl
either_true false = refl

-- the pages of a resource that is among these become zeros
become_zeros : (d : ℕ) (numbers : List ℕ) (h : Handed) (resource page : ℕ) → list_any (λ (n : ℕ). nat_eq resource n) numbers ≡ true → page_after d numbers h resource page ≡ zero_page
unfolding forget_each ask_forget is_of
become_zeros d [] h resource page among = cc
become_zeros d (n ∷ numbers) h resource page among = elim (cases_eq resource n) [
  | inl same ↦ stay_zeros d numbers (without d n h) resource page (rw (eq-eqb d d refl, eq-eqb resource n same) refl)
  | inr other ↦ become_zeros d numbers (without d n h) resource page (rest_true _ _ (ne_eqb resource n other) among)
]

-- a number is among those below another
among_below : (n k : ℕ) → k < n → list_any (λ (m : ℕ). nat_eq k m) (numbers_below n) ≡ true
among_below zero k less = absurd (omega (arith, less))
among_below (suc n) k less = list_any-append (λ (m : ℕ). nat_eq k m) (numbers_below n) (n ∷ []) ∙ elim (cases_eq k n) [
  | inl same ↦ rw (eq-eqb k n same) (either_true (list_any (λ (m : ℕ). nat_eq k m) (numbers_below n)))
  | inr other ↦ rw (among_below n k (omega (arith, less, other))) refl
]

pub ended_zeros : (d : ℕ) (plain : ℕ → ℕ → List ℕ) (resource page : ℕ) → resource < 16 → ended_plain d plain resource page ≡ zero_page
unfolding ask_end settled_for
ended_zeros d plain resource page low =
    become_zeros d (numbers_below 16) (record { plain = plain; answers = []; unfit = false }) resource page (among_below 16 resource low)
