-- No write ends a reservation where there is none; and all pages of a program are marked.
use Rattle.std.proofs.Common.{◌≡◌, ℕ, zero, suc, ◌<◌, Bool, true, false, List, ◌∷◌, Option, None, map, replicate, slice_index_or, refl, ap}
use Rattle.std.proofs.lemmas.List.{get_or-replicate}
use Rattle.cloak_model.specs.Memory.{unless_written}
use Rattle.cloak_model.specs.Ending.{all_marked}

pub still_none : (gone : ℕ → Bool) (n : ℕ) → map (unless_written gone) (replicate n None) ≡ replicate n None
still_none gone zero = refl
still_none gone (suc n) = ap (λ (l : List (Option ℕ)). None ∷ l) (still_none gone n)

pub is_marked_all : (n : ℕ) → n < 16 → slice_index_or all_marked n false ≡ true
is_marked_all n low = get_or-replicate 16 n true false low
