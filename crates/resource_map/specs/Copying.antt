-- Copying the resources of a space.
use Rattle.std.specs.Prelude.{◌≡◌, ℕ, ◌+◌, ◌<◌, nat_lt, Bool, true, false, not, ◌&&◌, None, is_some, length, slice_index_or}
use Rattle.cloak_model.specs.Fork.{marked, private_numbers, free_numbers, private_pages}
use Rattle.cloak_model.specs.Resources.{Resources, resource_at, all_pages, first_free}

-- there is a number for each copy of a space's private resources, and room for their pages
abbrev pub can_copy : ℕ → Resources → Bool
can_copy space r = not (nat_lt (length (free_numbers r)) (length (private_numbers space r))) && not (nat_lt 1024 (all_pages r + private_pages space r))

-- and there is a space
abbrev pub has_room_for_copy : ℕ → Resources → Bool
has_room_for_copy space r = is_some (first_free r.spaces) && can_copy space r

-- a copy is of a resource that is marked, and gets a number that is free
pub record IsCopy (space : ℕ) (r : Resources) (copy : ℕ × ℕ) : Type 0 where
  pub marked : slice_index_or (marked space r) copy.0 false ≡ true
  pub from : copy.0 < 16
  pub to : copy.1 < 16
  pub free : resource_at r copy.1 ≡ None
