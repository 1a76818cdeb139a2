-- Marks of resources, and numbers that are free.
use Rattle.std.specs.Prelude.{◌≡◌, ◌<◌, ℕ, Bool, true, false, List, None, slice_index_or}
use Rattle.cloak_model.specs.Fork.{places}
use Rattle.cloak_model.specs.Resources.{Resources, resource_at}

-- the numbers of the marked resources, by rising number
abbrev pub marked_numbers : List Bool → List ℕ
marked_numbers marked = places (λ mark. mark) 0 marked

-- each number that is free is unused
abbrev pub AreUnused : (ℕ → Type 0) → Resources → Type 0
AreUnused is_unused r = (n : ℕ) → n < 16 → resource_at r n ≡ None → is_unused n

-- each resource that is marked is cleared
abbrev pub AreCleared : (ℕ → Type 0) → List Bool → Type 0
AreCleared is_cleared marked = (n : ℕ) → slice_index_or marked n false ≡ true → is_cleared n
