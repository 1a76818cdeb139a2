-- The row that tells which pages are owed.
use Rattle.std.proofs.Common.{◌≡◌, ◌≢◌, ◌∙◌, ℕ, ◌*◌, ◌<◌, Bool, true, false, ◌||◌, List, ◌∷◌, length, get_or, set, sym, ap, subst, arith, inl, inr}
use Rattle.std.specs.List.{list_any}
use Rattle.std.proofs.lemmas.List.{length-set, get_or-set_same, get_or-set_other}
use Rattle.cloak_base.specs.Pages.{same_page}
use Rattle.cloak_base.specs.declared.names.PageId.{PageId}
use Rattle.cloak_base.proofs.Pages.{same_numbers, same_page_tells}
use Rattle.frozen_state.specs.Ranges.{IsPage}
use Rattle.frozen_run.specs.OwedPages.{place_of, TellsOwed}

pub place_inside : (programs : ℕ) (q : PageId) → IsPage programs q → place_of q < programs * 16384
place_inside programs q is = omega (arith, is.domain, is.resource, is.page)

-- two pages have two places
pub same_place : (programs : ℕ) (p q : PageId) → IsPage programs p → IsPage programs q → place_of p ≡ place_of q → p ≡ q
same_place programs p q a b e =
    same_numbers p q (omega (arith, a.resource, a.page, b.resource, b.page, e))
    (omega (arith, a.resource, a.page, b.resource, b.page, e)) (omega (arith, a.resource, a.page, b.resource, b.page, e))

-- a page more
pub noted : (programs : ℕ) (row : List Bool) (pages : List PageId) (q : PageId) → TellsOwed programs row pages →
    IsPage programs q → TellsOwed programs (set row (place_of q) true) (q ∷ pages)
noted programs row pages q tells is =
    let inside : place_of q < length row = omega (arith, tells.long, place_inside programs q is) in
    record {
      long = length-set row (place_of q) true ∙ tells.long;
      each = λ p is_p. elim (same_page_tells p q) [
        | inl same ↦
            let same_q : p ≡ q = same.1 in
            let here : get_or (set row (place_of q) true) (place_of p) false ≡ true =
            ap (λ (x : PageId). get_or (set row (place_of q) true) (place_of x) false) same_q
            ∙ get_or-set_same row (place_of q) true false inside in
            here ∙ sym (ap (λ b. b || list_any (same_page p) pages) same.0)
        | inr other ↦
            let apart : place_of p ≢ place_of q = λ e. other.1 (same_place programs p q is_p is e) in
            get_or-set_other row (place_of q) (place_of p) true false apart ∙ tells.each p is_p
            ∙ sym (ap (λ b. b || list_any (same_page p) pages) other.0)
      ];
    }

pub noted_as : (programs : ℕ) (row now : List Bool) (pages : List PageId) (q r : PageId) → TellsOwed programs row pages →
    IsPage programs q → q ≡ r → now ≡ set row (place_of q) true → TellsOwed programs now (r ∷ pages)
noted_as programs row now pages q r tells is same grown =
    subst (λ (x : PageId). TellsOwed programs now (x ∷ pages)) same
    (subst (λ (l : List Bool). TellsOwed programs l (q ∷ pages)) (sym grown) (noted programs row pages q tells is))
