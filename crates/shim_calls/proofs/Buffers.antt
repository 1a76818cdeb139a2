-- Bytes in at most two pages pass a test if the first and the last of them do, and it is the same for all of a page.
use Rattle.std.proofs.Common.{◌≡◌, ◌≢◌, ◌+◌, ◌-◌, ◌/◌, ◌≤◌, ◌<◌, ℕ, zero, suc, Bool, true, false, ◌&&◌, not, Option, refl, ap, sym, ◌∙◌, arith, ◌⊎◌, inl, inr}
use Rattle.std.proofs.lemmas.Bool.{cases_eq, and_right}
use Rattle.std.specs.Prelude.{is_some}
use Rattle.cloak_model.specs.Resources.{Resources, lookup}
use Rattle.cloak_model.specs.Calls.{each_from}

each_from-true : (test : ℕ → Bool) (va n : ℕ) → ((b : ℕ) → va ≤ b → b < va + n → test b ≡ true) → each_from test va n ≡ true
each_from-true test va zero all = refl
each_from-true test va (suc n) all =
    rw (all va (omega arith) (omega arith)) (each_from-true test (va + 1) n (λ b low high. all b (omega arith) (omega arith)))

each_from-false : (test : ℕ → Bool) (va n b : ℕ) → va ≤ b → b < va + n → test b ≡ false → each_from test va n ≡ false
each_from-false test va zero b low high fails = absurd (omega arith)
each_from-false test va (suc n) b low high fails = elim (cases_eq va b) [
  | inl here ↦ rw here (rw fails refl)
  | inr other ↦ and_right (test va) _ (each_from-false test (va + 1) n b (omega (arith, other)) (omega arith) fails)
]

-- each of them lies in the page of the first or in that of the last
page_of-either : (va n b : ℕ) → n ≤ 4096 → va ≤ b → b < va + n → (b / 4096 ≡ va / 4096) ⊎ (b / 4096 ≡ (va + (n - 1)) / 4096)
page_of-either va n b few low high = grind arith

pub each_from-ends : (test : ℕ → Bool) (va n : ℕ) (first last : Bool) → n ≤ 4096 → n ≢ 0
    → ((b : ℕ) → b / 4096 ≡ va / 4096 → test b ≡ first) → ((b : ℕ) → b / 4096 ≡ (va + (n - 1)) / 4096 → test b ≡ last)
    → each_from test va n ≡ (first && last)
each_from-ends test va n true true few some in_first in_last =
    each_from-true test va n (λ b low high. elim (page_of-either va n b few low high) [ inl e ↦ in_first b e | inr e ↦ in_last b e ])
each_from-ends test va n true false few some in_first in_last = each_from-false test va n (va + (n - 1)) (omega arith) (omega arith) (in_last _ refl)
each_from-ends test va n false last few some in_first in_last = each_from-false test va n va (omega arith) (omega arith) (in_first _ refl)

-- the bytes of a buffer and of an area, by what lies at the first and the last of them
module _ (r : Resources) (space va n : ℕ) (first last : Option (ℕ × ℕ)) (few : n ≤ 4096) (some : n ≢ 0)
    (in_first : (b : ℕ) → b / 4096 ≡ va / 4096 → lookup r space b ≡ first) (in_last : (b : ℕ) → b / 4096 ≡ (va + (n - 1)) / 4096 → lookup r space b ≡ last) where
  pub cloaked_from-ends : each_from (λ b. is_some (lookup r space b)) va n ≡ (is_some first && is_some last)
  cloaked_from-ends = each_from-ends _ va n _ _ few some (λ b same. ap is_some (in_first b same)) (λ b same. ap is_some (in_last b same))

  pub uncloaked_from-ends : each_from (λ b. not (is_some (lookup r space b))) va n ≡ (not (is_some first) && not (is_some last))
  uncloaked_from-ends =
      each_from-ends _ va n _ _ few some
      (λ b same. ap (λ o. not (is_some o)) (in_first b same)) (λ b same. ap (λ o. not (is_some o)) (in_last b same))

-- what two tests in a row tell of both
pub second_told : (a b x y both : Bool) → a ≡ x → a ≡ true → b ≡ y → both ≡ (x && y) → b ≡ both
second_told a b x y both first passed second is = second ∙ sym (is ∙ ap (λ z. z && y) (sym first ∙ passed))

pub first_told : (a x y both : Bool) → a ≡ x → a ≡ false → both ≡ (x && y) → a ≡ both
first_told a x y both first failed is = failed ∙ sym (is ∙ ap (λ z. z && y) (sym first ∙ failed))
