-- The keys of a run, over plain variables.
use Rattle.std.proofs.Common.{◌≡◌, ◌<◌, ◌≤◌, ◌+◌, ℕ, zero, suc, List, [], ◌∷◌, ◌++◌, length, drop, replicate, slice_set, None, Some, refl, ap, ◌∙◌, subst, arith, add-one, inl, inr}
use Rattle.std.specs.Prelude.{max}
use Rattle.std.proofs.lemmas.List.{length_push}
use Rattle.std.proofs.lemmas.Bool.{cases_lt}
use Rattle.cloak_base.specs.Random.{Random, next_draw}
use Rattle.cloak_model.specs.declared.image.Program.{Program}
use Rattle.cloak_model.specs.Opening.{drawn_keys, filled_up, key_count}

-- How many keys there are.

-- of the programs that were looked at the count is the greatest, and at least 1
pub record CountsKeys (i count : ℕ) (programs : List Program) : Type 0 where
  pub all : max count (key_count (drop i programs)) ≡ key_count programs
  pub some : 1 ≤ count
  pub few : count ≤ 4

pub counts_none : (programs : List Program) → CountsKeys 0 1 programs
counts_none [] = record { all = refl; some = omega arith; few = omega arith }
counts_none (p ∷ programs) = record { all = omega arith; some = omega arith; few = omega arith }

-- Lists that are filled up to four.

filled_set : {A : Type 0} (z x : A) (xs : List A) (n : ℕ) → length xs ≡ n → n < 4 →
    slice_set (filled_up z xs) n x ≡ filled_up z (xs ++ x ∷ [])
filled_set z x [] n is few = subst (λ k. slice_set (filled_up z []) k x ≡ filled_up z (x ∷ [])) is refl
filled_set z x (a ∷ []) n is few =
    subst (λ k. slice_set (filled_up z (a ∷ [])) k x ≡ filled_up z (a ∷ x ∷ [])) is refl
filled_set z x (a ∷ b ∷ []) n is few =
    subst (λ k. slice_set (filled_up z (a ∷ b ∷ [])) k x ≡ filled_up z (a ∷ b ∷ x ∷ [])) is refl
filled_set z x (a ∷ b ∷ c ∷ []) n is few =
    subst (λ k. slice_set (filled_up z (a ∷ b ∷ c ∷ [])) k x ≡ filled_up z (a ∷ b ∷ c ∷ x ∷ [])) is refl
filled_set z x (a ∷ b ∷ c ∷ d ∷ xs) n is few = absurd (omega (arith, is, few))

-- Keys that are drawn.

-- these keys are the first draws of the stream, filled up, and this stream is left
pub record Draws (stream left : Random) (n : ℕ) (keys : List (List ℕ)) : Type 0 where
  pub drawn : List (List ℕ)
  pub are : drawn_keys n stream ≡ Some (drawn, left)
  pub count : length drawn ≡ n
  pub filled : keys ≡ filled_up (replicate 16 0) drawn

pub draws_none : (stream : Random) (keys : List (List ℕ)) → keys ≡ replicate 4 (replicate 16 0) → Draws stream stream 0 keys
unfolding drawn_keys
draws_none stream keys zeros = record { drawn = []; are = refl; count = refl; filled = zeros }

drawn_more : (stream left rest : Random) (n : ℕ) (drawn : List (List ℕ)) (key : List ℕ) →
    drawn_keys n stream ≡ Some (drawn, left) → next_draw left ≡ Some (key, rest) →
    drawn_keys (suc n) stream ≡ Some (drawn ++ key ∷ [], rest)
unfolding drawn_keys
drawn_more stream left rest n drawn key so_far next = rw so_far (rw next refl)

pub draws_more : (stream left rest : Random) (n : ℕ) (keys keys' : List (List ℕ)) (key : List ℕ) →
    Draws stream left n keys → n < 4 → next_draw left ≡ Some (key, rest) → keys' ≡ slice_set keys n key →
    Draws stream rest (n + 1) keys'
draws_more stream left rest n keys keys' key so_far few next set = record {
  drawn = so_far.drawn ++ key ∷ [];
  are =
      ap (λ k. drawn_keys k stream) (add-one n) ∙ drawn_more stream left rest n so_far.drawn key so_far.are next;
  count = length_push so_far.drawn key ∙ ap (λ k. k + 1) so_far.count;
  filled =
      set ∙ (ap (λ (x : List (List ℕ)). slice_set x n key) so_far.filled
      ∙ filled_set (replicate 16 0) key so_far.drawn n so_far.count few);
}

-- a stream that does not have m draws does not have more
drawn_missed : (stream : Random) (m n : ℕ) → m ≤ n → drawn_keys m stream ≡ None → drawn_keys n stream ≡ None
unfolding drawn_keys
drawn_missed stream m zero few none =
    subst (λ k. drawn_keys k stream ≡ None) (let e : m ≡ zero = omega (arith, few) in e) none
drawn_missed stream m (suc n) few none = elim (cases_lt m (suc n)) [
  | inl lt ↦ rw (drawn_missed stream m n (omega (arith, lt)) none) refl
  | inr ge ↦ subst (λ k. drawn_keys k stream ≡ None) (let e : m ≡ suc n = omega (arith, ge, few) in e) none
]

next_missed : (stream left : Random) (n : ℕ) (drawn : List (List ℕ)) → drawn_keys n stream ≡ Some (drawn, left) →
    next_draw left ≡ None → drawn_keys (suc n) stream ≡ None
unfolding drawn_keys
next_missed stream left n drawn so_far none = rw so_far (rw none refl)

pub draws_missed : (stream left : Random) (n count : ℕ) (keys : List (List ℕ)) → Draws stream left n keys →
    n < count → next_draw left ≡ None → drawn_keys count stream ≡ None
draws_missed stream left n count keys so_far more none =
    drawn_missed stream (suc n) count (omega (arith, more)) (next_missed stream left n so_far.drawn so_far.are none)
