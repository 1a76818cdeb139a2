-- The bytes of RAM that a step of a run writes, whoever writes them: the kernel, or what it is shown of programs.
use Rattle.std.specs.Prelude.{ℕ, ◌+◌, ◌*◌, nat_lt, nat_le, Bool, not, ◌&&◌, List, [], ◌∷◌, ◌++◌, slice_get, Option, Some, None}
use Rattle.std.specs.List.{flat_map, list_any}
use Rattle.cloak_base.specs.Constants.{ram_start}
use Rattle.cloak_model.specs.declared.image.Bundle.{Bundle}
use Rattle.cloak_model.specs.Items.{Item}
use Rattle.cloak_model.specs.Items.{Cipher, Put}
use Rattle.cloak_model.specs.Ahead.{settle_touched}
use Rattle.cloak_model.specs.Cloaking.{seen_in}
use Rattle.cloak_model.specs.Hart.{Hart, hart_after}
use Rattle.cloak_model.specs.Joint.{hart_in}
use Rattle.cloak_model.specs.Parts.{Joint}
use Rattle.cloak_model.specs.Run.{Run}
use Rattle.kernel_isolation.specs.Isolation.{joint_until}
use Rattle.page_law.specs.Ciphers.{items_of_turn}
use Rattle.reservation_law.specs.Deeds.{Deed, Idle, Reserves, StoresReserved, Stores, Fills, deed_of}

-- This many bytes from an address on.
pub record Extent : Type 0 where
  pub from : ℕ
  pub count : ℕ

-- it has the byte at this address
abbrev pub has_byte : ℕ → Extent → Bool
has_byte pa e = nat_le e.from pa && nat_lt pa (e.from + e.count)

-- it has a byte of the word at this address
abbrev pub meets_word : ℕ → Extent → Bool
meets_word pa e = nat_lt e.from (pa + 4) && nat_lt pa (e.from + e.count)

-- what a hart outside writes
abbrev pub deed_extents : Deed → List Extent
deed_extents Idle = []
deed_extents (Reserves pa) = []
deed_extents (StoresReserved pa) = record { from = pa; count = 4 } ∷ []
deed_extents (Stores pa width) = record { from = pa; count = width } ∷ []
deed_extents (Fills pa) = record { from = pa; count = 4096 } ∷ []

-- what is written as the kernel is shown a page in a frame, and as a program stores outside its pages
abbrev pub item_extents : Item → List Extent
item_extents (Cipher f bytes) = record { from = ram_start + 4096 * f; count = 4096 } ∷ []
item_extents (Put pa width value) = record { from = pa; count = width } ∷ []
item_extents _ = []

abbrev pub items_extents : List Item → List Extent
items_extents items = flat_map item_extents items

-- The steps of a run are numbered from 0.

-- the hart that makes a step
abbrev pub hart_of_step : Bundle → ℕ → ℕ
hart_of_step b n = hart_after b.kernel.schedule n

-- what a hart outside does, on what the kernel sees after the frames that its step touches were settled
abbrev pub outside_deed : Joint → Hart → Option ℕ → Deed
outside_deed j h (Some ctx) = Idle
outside_deed j h None = deed_of h (seen_in (settle_touched h j.disk j.memory).memory) j.disk

unfoldable pub deed_of_step : Bundle → Run → ℕ → Deed
deed_of_step b r n =
    let j = joint_until n r in
    let h = hart_in j (hart_of_step b n) in
    outside_deed j h h.inside

-- all that a step writes
abbrev pub writes_of_step : Bundle → Run → ℕ → List Extent
writes_of_step b r n = deed_extents (deed_of_step b r n) ++ items_extents (items_of_turn (slice_get r.turns n))

-- these writes leave the byte, and the word, at an address as it was

abbrev pub spares_byte : ℕ → List Extent → Bool
spares_byte pa writes = not (list_any (has_byte pa) writes)

abbrev pub spares_word : ℕ → List Extent → Bool
spares_word pa writes = not (list_any (meets_word pa) writes)
