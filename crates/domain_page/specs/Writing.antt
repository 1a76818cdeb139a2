-- Bytes that are written into a page one after another.
use Rattle.std.specs.Prelude.{ℕ, ◌≡◌, ◌<◌, ◌+◌, List, [], ◌∷◌, ◌++◌, length, take, Option, Some, None, IfSome}
use Rattle.std.specs.List.{flat_map}
use Rattle.cloak_base.specs.declared.names.HartId.{HartId}
use Rattle.cloak_model.specs.declared.resource.Owner.{Owner}
use Rattle.cloak_model.specs.Bits.{word}
use Rattle.cloak_model.specs.Contexts.{Context}
use Rattle.cloak_model.specs.DomainState.{slot_bytes, space_bytes, owner_bytes, resource_bytes}
use Rattle.cloak_model.specs.Resources.{Resources}
use Rattle.frozen_state.specs.DomainPage.{slot_mark_bytes}

-- After the first `at` bytes stand these now, up to `end`.
pub record Appends (old new : List ℕ) (at end : ℕ) (bytes : List ℕ) : Type 0 where
  pub end_is : end ≡ at + length bytes
  pub bytes_are : take end new ≡ take at old ++ bytes

-- A hart, if there is one, has a number of one byte, which is not that of none.
abbrev pub HasHart : Option HartId → Type 0
HasHart on = IfSome on (λ hart. hart.0 < 4)

-- A context, if there is one, runs on such a hart, if on any.
abbrev pub IsOnHart : Option Context → Type 0
IsOnHart slot = IfSome slot (λ c. HasHart c.on)

-- A resource by its owner and pages, 0 if its number is free.
abbrev pub told_bytes : Option (Owner × ℕ) → List ℕ
told_bytes None = 0 ∷ []
told_bytes (Some told) = owner_bytes told.0 ++ word told.1

-- Slots, spaces and resources.
abbrev pub parts_of : List (Option Context) → Resources → List ℕ
parts_of contexts r =
    flat_map slot_bytes contexts ++ (flat_map space_bytes r.spaces ++ flat_map resource_bytes r.held)

-- The page of a program up to its zeros.
abbrev pub state_of : List (Option Context) → Resources → List ℕ
state_of contexts r = parts_of contexts r ++ flat_map slot_mark_bytes contexts
