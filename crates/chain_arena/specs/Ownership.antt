-- What the owner of a block's places owns and lends, and what the right to free the block is, at values of the row R.
use Rattle.std.specs.Prelude.{ℕ, ◌+◌, ◌-◌, ◌*◌, ◌^◌, List, length}
use Rattle.core.specs.Mem.{type_size}
use Rattle.core.specs.Allocator.{array_of}
use base.Fraction.{full_share}
use base.Fml.{Lft, Fml, fsep, flt}
use mir.Syntax.{Ty}
use denote.RattleType.{RattleType}
use denote.Array.{Array}
use denote.Sharing.{said, beside}
use denote.Struct.Lending.{lent_at}
use denote.RawPtr.{Ptr, lies_at, room_for, ◌+ₚ◌}

module _ (R : RattleType) where
  -- xs have room in n places, and n places have a size that a block can have
  abbrev pub fits : ℕ → List R.Denot → Fml
  fits n xs = fsep (flt (length xs) (n + 1)) (flt (n * type_size R) (2 ^ 63))

  -- n places from p on: the values xs lie in the first ones, and the others are room
  abbrev pub cells_own : Ptr → ℕ → List R.Denot → Fml
  cells_own p n xs =
      fsep (fits n xs) (fsep (lies_at (Array R (length xs)) full_share p xs)
      (room_for (array_of R (n - length xs)) (p +ₚ length xs * type_size R)))

  -- what a `&` to the owner holds: one to each value
  abbrev pub cells_lent : Ptr → ℕ → List R.Denot → Lft → Fml
  cells_lent p n xs = beside (said (fits n xs)) (lent_at (Array R (length xs)) p xs)

  -- the allocator's token for a block of n places
  abbrev pub deed_owns : (Ty → Ptr → Fml) → Ptr → ℕ → Fml
  deed_owns token p n = token (array_of R n) p
