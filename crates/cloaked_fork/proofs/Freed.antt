-- Which numbers are free once a space was copied, or has ended.
use Rattle.std.proofs.Common.{◌≡◌, ◌⊎◌, ◌+◌, ℕ, zero, suc, Bool, true, false, List, [], ◌∷◌, Option, None, refl, map, slice_index_or, inl, inr}
use Rattle.cloak_model.specs.declared.resource.Resource.{Resource}
use Rattle.cloak_model.specs.Resources.{Resources, resource_at, is_private_to, without_space, drop_space}
use Rattle.cloak_model.specs.Fork.{marked, places, private_numbers, with_copies, copies, forked_resources}
use Rattle.cloaked_fork.specs.Marks.{marked_numbers}
use Rattle.cloak_base.proofs.Lists.{free_before}

-- the numbers of the marked resources are those of the private ones
marked_places : {A : Type 0} (test : A → Bool) (n : ℕ) (xs : List A) → places (λ mark. mark) n (map test xs) ≡ places test n xs
marked_places test n [] = refl
marked_places test n (x ∷ xs) = rw (marked_places test (n + 1) xs) refl

pub marked_numbers-marked : (space : ℕ) (r : Resources) → marked_numbers (marked space r) ≡ private_numbers space r
marked_numbers-marked space r = marked_places (is_private_to space) 0 r.held

-- a number is free now that was free, or that was private to the space
here : (space : ℕ) (held : Option Resource) (private : Bool) → is_private_to space held ≡ private → without_space space held ≡ None → (held ≡ None) ⊎ (private ≡ true)
here space held true is free = inr refl
here space held false is free = inl (rw is at free)

dropped_held : (space : ℕ) (held : List (Option Resource)) (n : ℕ) → slice_index_or (map (without_space space) held) n None ≡ None
    → (slice_index_or held n None ≡ None) ⊎ (slice_index_or (map (is_private_to space) held) n false ≡ true)
dropped_held space [] n free = inl refl
dropped_held space (held ∷ rest) zero free = here space held _ refl free
dropped_held space (held ∷ rest) (suc n) free = dropped_held space rest n free

pub free-drop_space : (space : ℕ) (r : Resources) (n : ℕ) → resource_at (drop_space space r) n ≡ None → (resource_at r n ≡ None) ⊎ (slice_index_or (marked space r) n false ≡ true)
unfolding drop_space
free-drop_space space r n free = dropped_held space r.held n free

copied_free : (space : ℕ) (held : List (Option Resource)) (list : List (ℕ × ℕ)) (r : Resources) (n : ℕ) → slice_index_or (with_copies space held list r) n None ≡ None → slice_index_or held n None ≡ None
copied_free space held [] r n free = free
copied_free space held (copy ∷ rest) r n free = free_before held copy.1 n _ (copied_free space _ rest r n free)

pub free-forked : (space new : ℕ) (r : Resources) (n : ℕ) → resource_at (forked_resources space new r) n ≡ None → resource_at r n ≡ None
unfolding forked_resources
free-forked space new r n free = copied_free new r.held (copies space r) r n free

pub ruleset freed = (free-drop_space, free-forked)
