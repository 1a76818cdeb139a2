-- How many slots are in use, when one is taken or given back.
use Rattle.std.proofs.Common.{◌≡◌, ◌≤◌, ◌<◌, ◌+◌, ℕ, zero, suc, List, [], ◌∷◌, length, replicate, slice_get, slice_set, Option, Some, None, refl, sym, ap, arith}
use Rattle.std.specs.List.{filter_map}
use Rattle.std.proofs.lemmas.Option.{none-some, same_Some}

module _ {X : Type 0} where
  -- what lies in the slots that are in use
  abbrev pub lying : List (Option X) → List X
  lying os = filter_map (λ o. o) os

  pub few_lying : (os : List (Option X)) → length (lying os) ≤ length os
  few_lying [] = omega arith
  few_lying (None ∷ os) = omega (arith, few_lying os)
  few_lying (Some x ∷ os) = omega (arith, few_lying os)

  -- if no slot is free, as many are in use as there are
  pub all_lying : (os : List (Option X)) → ((s : ℕ) → slice_get os s ≡ Some None → ⊥) → length (lying os) ≡ length os
  all_lying [] none = refl
  all_lying (None ∷ os) none = absurd (none zero refl)
  all_lying (Some x ∷ os) none = ap suc (all_lying os (λ s. none (suc s)))

  -- if one is free, fewer are in use
  pub fewer_lying : (os : List (Option X)) (s : ℕ) → slice_get os s ≡ Some None → length (lying os) < length os
  fewer_lying [] s free = absurd (none-some None free)
  fewer_lying (None ∷ os) zero free = omega (arith, few_lying os)
  fewer_lying (Some x ∷ os) zero free = absurd (none-some x (sym (same_Some _ _ free)))
  fewer_lying (None ∷ os) (suc s) free = omega (arith, fewer_lying os s free)
  fewer_lying (Some x ∷ os) (suc s) free = omega (arith, fewer_lying os s free)

  pub one_taken : (os : List (Option X)) (s : ℕ) (v : X) → slice_get os s ≡ Some None
      → length (lying (slice_set os s (Some v))) ≡ length (lying os) + 1
  one_taken [] s v free = absurd (none-some None free)
  one_taken (None ∷ os) zero v free = omega arith
  one_taken (Some x ∷ os) zero v free = absurd (none-some x (sym (same_Some _ _ free)))
  one_taken (None ∷ os) (suc s) v free = one_taken os s v free
  one_taken (Some x ∷ os) (suc s) v free = omega (arith, one_taken os s v free)

  pub one_given : (os : List (Option X)) (s : ℕ) (v : X) → slice_get os s ≡ Some (Some v)
      → length (lying (slice_set os s None)) + 1 ≡ length (lying os)
  one_given [] s v there = absurd (none-some (Some v) there)
  one_given (None ∷ os) zero v there = absurd (none-some v (same_Some _ _ there))
  one_given (Some x ∷ os) zero v there = omega arith
  one_given (None ∷ os) (suc s) v there = one_given os s v there
  one_given (Some x ∷ os) (suc s) v there = omega (arith, one_given os s v there)

  pub none_lying : (n : ℕ) → lying (replicate n None) ≡ []
  none_lying zero = refl
  none_lying (suc n) = none_lying n
