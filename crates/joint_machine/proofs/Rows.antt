-- Lists that have something for each number.
use Rattle.std.proofs.Common.{◌≡◌, ◌∙◌, ◌<◌, ◌≤◌, ℕ, zero, suc, List, [], ◌∷◌, length, map, slice_index, slice_index_or, ap, sym, arith, inl, inr}
use Rattle.std.proofs.lemmas.Bool.{cases_lt}
use Rattle.std.proofs.lemmas.List.{ext_get_or, get_or_append_left, get_or_past, get_or_push, map-append}
use Rattle.cloak_model.specs.Opening.{numbers_below}
use Rattle.cloak_model.proofs.Opening.{length-map_below}

pub row_at : {A : Type 0} (g : ℕ → A) (d : A) (n i : ℕ) → i < n → slice_index_or (map g (numbers_below n)) i d ≡ g i
row_at g d zero i low = absurd (omega (arith, low))
row_at {A} g d (suc n) i low =
    ap (λ (l : List A). slice_index_or l i d) (map-append g (numbers_below n) (n ∷ []))
    ∙ elim (cases_lt i n) [
      | inl inside ↦
          get_or_append_left (map g (numbers_below n)) (g n ∷ []) d i (let c = length-map_below g n in omega (arith, inside, c))
          ∙ row_at g d n i inside
      | inr past ↦
          let last : i ≡ n = omega (arith, low, past) in
          get_or_push (map g (numbers_below n)) (g n) d i (length-map_below g n ∙ sym last) ∙ ap g (sym last)
    ]

pub row_past : {A : Type 0} (g : ℕ → A) (d : A) (n i : ℕ) → n ≤ i → slice_index_or (map g (numbers_below n)) i d ≡ d
row_past g d n i past =
    get_or_past (map g (numbers_below n)) i d (let c = length-map_below g n in omega (arith, past, c))

-- a list by its places
pub by_places : (ws : List ℕ) (n : ℕ) → length ws ≡ n → ws ≡ map (λ (i : ℕ). slice_index ws i) (numbers_below n)
by_places ws n count =
    let at : ℕ → ℕ = λ i. slice_index ws i in
    ext_get_or 0 ws (map at (numbers_below n)) (count ∙ sym (length-map_below at n))
    (λ i low. sym (row_at at 0 n i (omega (arith, low, count))))
