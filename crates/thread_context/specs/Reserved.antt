-- Reservations of the contexts of a domain.
use Rattle.std.specs.Prelude.{Bool, false, List, Option, Some, None, is_some}
use Rattle.std.specs.List.{list_any}
use Rattle.cloak_model.specs.Contexts.{Context}

-- a slot has a context with a reservation
abbrev pub has_mark : Option Context → Bool
has_mark None = false
has_mark (Some c) = is_some c.mark

-- one of these slots has
abbrev pub has_marks : List (Option Context) → Bool
has_marks contexts = list_any has_mark contexts
