-- The pages of a resource, changed one after another.
use Rattle.std.proofs.Common.{◌≡◌, ◌≢◌, ◌∙◌, ℕ, ◌+◌, ◌*◌, ◌<◌, ◌≤◌, List, [], length, get_or, sym, ap, arith, inl, inr}
use Rattle.std.proofs.Math.ListN.{set, length-set}
use Rattle.std.proofs.lemmas.List.{get_or-set_same, get_or-set_other}
use Rattle.std.proofs.lemmas.Bool.{cases_lt}

-- the first `count` pages from `first` on are those that `page` tells, and the others are as they were
pub record Changed (was now : List (List ℕ)) (first count : ℕ) (page : ℕ → List ℕ) : Type 0 where
  pub inside : (k : ℕ) → first ≤ k → k < first + count → get_or now k [] ≡ page k
  pub below : (k : ℕ) → k < first → get_or now k [] ≡ get_or was k []
  pub above : (k : ℕ) → first + count ≤ k → get_or now k [] ≡ get_or was k []
  pub as_many : length now ≡ length was

-- one page more is changed
pub changed_more : (was all now : List (List ℕ)) (first count : ℕ) (page : ℕ → List ℕ) (w : List ℕ) → Changed was all first count page →
    now ≡ set all (first + count) w → first + count < length all → w ≡ page (first + count) → Changed was now first (count + 1) page
changed_more was all now first count page w so_far is there w_is =
    let other : (k : ℕ) → k ≢ first + count → get_or now k [] ≡ get_or all k [] =
    λ k differs. ap (λ l. get_or l k []) is ∙ get_or-set_other all (first + count) k w [] differs in
    record {
      inside = λ k least most. elim (cases_lt k (first + count)) [
        | inl low ↦ other k (λ same. omega (arith, low, same)) ∙ so_far.inside k least low
        | inr high ↦
            let same : k ≡ first + count = omega (arith, most, high) in
            ap (λ n. get_or now n []) same ∙ (ap (λ l. get_or l (first + count) []) is
            ∙ (get_or-set_same all (first + count) w [] there ∙ (w_is ∙ sym (ap page same))))
      ];
      below = λ k low. other k (λ same. omega (arith, low, same)) ∙ so_far.below k low;
      above = λ k high. other k (λ same. omega (arith, high, same)) ∙ so_far.above k (omega (arith, high));
      as_many = ap length is ∙ (length-set all (first + count) w ∙ so_far.as_many);
    }

-- a page of another resource, or a later page of this one, is as it was
pub not_yet : (was all : List (List ℕ)) (from to count : ℕ) (page : ℕ → List ℕ) → Changed was all (to * 1024) count page → count < 1024 →
    get_or all (from * 1024 + count) [] ≡ get_or was (from * 1024 + count) []
not_yet was all from to count page so_far few = elim (cases_lt (from * 1024 + count) (to * 1024)) [
  | inl low ↦ so_far.below (from * 1024 + count) low
  | inr high ↦ so_far.above (from * 1024 + count) (omega (arith, high))
]
