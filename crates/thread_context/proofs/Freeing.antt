-- Lists of slots, of which none is free.
use Rattle.std.proofs.Common.{ℕ, true, false, slice_index_or, ◌≡◌, ◌≤◌, zero, suc, List, [], ◌∷◌, Option, Some, None, refl, length, arith}
use Rattle.std.proofs.lemmas.Bool.Decides.{nat_tests}
use Rattle.std.specs.Prelude.{All, IsSome, is_none}
use Rattle.std.specs.List.{position_or_len}
use Rattle.cloak_model.specs.Resources.{first_free}

none_is_free : {A : Type 0} (xs : List (Option A)) → length xs ≤ position_or_len is_none xs → All IsSome xs
none_is_free [] h k d inside = absurd (omega arith)
none_is_free (None ∷ xs) h k d inside = absurd (omega arith)
none_is_free (Some x ∷ xs) h zero d inside = refl
none_is_free (Some x ∷ xs) h (suc k) d inside = none_is_free xs (omega arith) k d (omega arith)

behind : {A : Type 0} (xs : List (Option A)) → first_free xs ≡ None → length xs ≤ position_or_len is_none xs
behind xs none = grind (arith, nat_tests)

pub All-first_free : {A : Type 0} (xs : List (Option A)) → first_free xs ≡ None → All IsSome xs
All-first_free xs none = none_is_free xs (behind xs none)

all_used : {A : Type 0} (xs : List (Option A)) → All IsSome xs → position_or_len is_none xs ≡ length xs
all_used [] h = refl
all_used (None ∷ xs) h = let used : IsSome (slice_index_or (None ∷ xs) 0 None) = h zero None (omega arith) in cc
all_used (Some x ∷ xs) h = let rest = all_used xs (λ k d inside. h (suc k) d (omega arith)) in omega (arith, rest)

none_free : {A : Type 0} (xs : List (Option A)) → position_or_len is_none xs ≡ length xs → first_free xs ≡ None
none_free xs all = grind (arith, nat_tests)

pub first_free-full : {A : Type 0} (xs : List (Option A)) (n : ℕ) → first_free xs ≡ Some n → All IsSome xs → true ≡ false
first_free-full xs n free used = let none = none_free xs (all_used xs used) in cc

pub ruleset freeing = (All-first_free, first_free-full)
