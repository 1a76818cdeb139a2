-- What is left of a walk over a chain, as slots that it has passed are taken out.
use Rattle.std.proofs.Common.{◌≡◌, ℕ, inl, inr, Bool, true, false, cond, List, [], ◌∷◌, length, slice_get, Option, Some, None, refl, sym, ap, ◌∙◌, subst, arith}
use Rattle.std.proofs.lemmas.Bool.{cases_eq, eq-eqb, ne_eqb}
use Rattle.chain_arena.specs.Chains.{IsMemberOf, IsOnce, without}
use Rattle.chain_arena.specs.Arena.{from_slot, chain_rest, next_behind}
use Rattle.chain_arena.proofs.Callers.{first_in_list, behind_in_list, rest_more}
use Rattle.chain_arena.proofs.Chains.{without_first, without_other, without_none}
use Rattle.multi_shadow.specs.Placed.{without_if}

abbrev Not : Type 0 → Type 0
Not A = A → ⊥

-- what is left does not begin with x
not_from : (x : ℕ) (xs : List ℕ) (o : Option ℕ) → ((t : ℕ) → o ≡ Some t → Not (t ≡ x)) → chain_rest o (x ∷ xs) ≡ chain_rest o xs
not_from x xs None other = refl
not_from x xs (Some t) other = ap (λ b. cond b (x ∷ xs) (from_slot t xs)) (ne_eqb t x (other t refl))

not_first : (x t : ℕ) (xs : List ℕ) → IsOnce (x ∷ xs) → IsMemberOf t xs → Not (t ≡ x)
not_first x t xs once p e = once.0 (subst (λ k. IsMemberOf k xs) e p)

-- a walk goes on the same if the slot that it leaves is taken out
pub rest_without : (xs : List ℕ) (s : ℕ) → IsOnce xs → IsMemberOf s xs
    → chain_rest (next_behind s xs) (without s xs) ≡ chain_rest (next_behind s xs) xs
rest_without [] s once p = absurd p
rest_without (x ∷ xs) s once p = elim (cases_eq s x) [
  | inl e ↦
      let next : next_behind s (x ∷ xs) ≡ slice_get xs 0 =
      ap (λ b. cond b (slice_get xs 0) (next_behind s xs)) (eq-eqb s x e) in
      let out : without s (x ∷ xs) ≡ xs = without_first s x xs e ∙ without_none s xs (λ q. once.0 (subst (λ k. IsMemberOf k xs) e q)) in
      (λ i. chain_rest (next i) (out i)) ∙ sym (ap (λ o. chain_rest o (x ∷ xs)) next
      ∙ not_from x xs (slice_get xs 0) (λ t f. not_first x t xs once (first_in_list xs t f)))
  | inr d ↦
      let next : next_behind s (x ∷ xs) ≡ next_behind s xs =
      ap (λ b. cond b (slice_get xs 0) (next_behind s xs)) (ne_eqb s x d) in
      let later : IsMemberOf s xs = elim p [ inl e ↦ absurd (d e) | inr q ↦ q ] in
      let other : (t : ℕ) → next_behind s xs ≡ Some t → Not (t ≡ x) = λ t f. not_first x t xs once (behind_in_list xs s t f) in
      (λ i. chain_rest (next i) (without_other s x xs d i))
      ∙ not_from x (without s xs) (next_behind s xs) other
      ∙ rest_without xs s once.1 later
      ∙ sym (ap (λ o. chain_rest o (x ∷ xs)) next ∙ not_from x xs (next_behind s xs) other)
]

pub rest_if : (wanted : Bool) (xs : List ℕ) (s : ℕ) → IsOnce xs → IsMemberOf s xs
    → chain_rest (next_behind s xs) (without_if wanted s xs) ≡ chain_rest (next_behind s xs) xs
rest_if true xs s once p = rest_without xs s once p
rest_if false xs s once p = refl

-- what stands after a slot is another
pub behind_other : (xs : List ℕ) (s t : ℕ) → IsOnce xs → IsMemberOf s xs → next_behind s xs ≡ Some t → Not (t ≡ s)
behind_other xs s t once p next same =
    let more : from_slot s xs ≡ s ∷ from_slot s xs =
    rest_more xs s once p ∙ ap (λ o. s ∷ chain_rest o xs) next ∙ ap (λ k. s ∷ from_slot k xs) same in
    let long = ap length more in
    absurd (omega (arith, long))
