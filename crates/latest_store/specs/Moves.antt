-- What was done to cloaked pages, and what a load gives for it: byte by byte, what was stored last.
use Rattle.std.specs.Prelude.{ℕ, zero, suc, ◌+◌, ◌-◌, ◌%◌, ◌==◌, nat_le, nat_lt, Bool, ◌&&◌, List, [], ◌∷◌, ◌++◌, slice_index, if◌then◌else◌}
use Rattle.std.specs.Int.{w32, to_le_bytes, from_le_bytes}
use Rattle.cloak_base.specs.Pages.{same_page, is_of, page_in}
use Rattle.cloak_base.specs.declared.names.PageId.{PageId}
use Rattle.rv_atomic.specs.Combine.{combined}
use Rattle.rv_atomic.specs.declared.atomic.AtomicOp.{AtomicOp}

pub data Move : Type 0 where
  -- a page is made with these bytes
  Makes : PageId → List ℕ → Move
  -- the lowest 1, 2 or 4 bytes of a word are stored from a place of a page on, the lowest first
  Stores : PageId → ℕ → ℕ → ℕ → Move
  -- the word at a place of a page becomes what an operation makes of it and an operand
  Combines : PageId → ℕ → AtomicOp → ℕ → Move
  -- each page of the second resource of a domain is made as the page of the first
  Copies : ℕ → ℕ → ℕ → Move
  -- the pages of a resource of a domain are made, as zeros
  Zeros : ℕ → ℕ → Move
  -- the pages of a resource of a domain are dropped
  Drops : ℕ → ℕ → Move
  -- a load of 1, 2 or 4 bytes at an address is completed, in the page that lies there
  Loads : PageId → ℕ → ℕ → Move

-- A history is a list of moves, the newest first.

-- a store of this width from a place on reaches this one
abbrev pub covers : ℕ → ℕ → ℕ → Bool
covers from width at = nat_le from at && nat_lt at (from + width)

-- the bytes from a place on, with this one at each place
abbrev pub bytes_from : (ℕ → ℕ) → ℕ → ℕ → List ℕ
bytes_from byte at zero = []
bytes_from byte at (suc n) = byte at ∷ bytes_from byte (at + 1) n

-- the number that they spell, the lowest byte first
abbrev pub value_from : (ℕ → ℕ) → ℕ → ℕ → ℕ
value_from byte at width = from_le_bytes w32 (bytes_from byte at width)

-- The byte that was stored last at a place of a page since the page was made; if there was none, the byte with which
-- it was made. If there is no page, there are zeros.
unfoldable pub latest : List Move → PageId → ℕ → ℕ
latest [] q at = 0
latest (Makes p bytes ∷ earlier) q at = if same_page q p then slice_index bytes at else latest earlier q at
latest (Stores p from width value ∷ earlier) q at =
    if same_page q p && covers from width at then slice_index (to_le_bytes w32 value) (at - from) else
    latest earlier q at
latest (Combines p from op operand ∷ earlier) q at =
    if same_page q p && covers from 4 at then
    slice_index (to_le_bytes w32 (combined op (value_from (latest earlier p) from 4) operand)) (at - from) else
    latest earlier q at
latest (Copies domain from to ∷ earlier) q at =
    if is_of domain to q then latest earlier (page_in from q) at else latest earlier q at
latest (Zeros domain resource ∷ earlier) q at = if is_of domain resource q then 0 else latest earlier q at
latest (Drops domain resource ∷ earlier) q at = if is_of domain resource q then 0 else latest earlier q at
latest (Loads p address width ∷ earlier) q at = latest earlier q at

-- the value of 1, 2 or 4 bytes that were stored last, from a place of a page on
abbrev pub latest_value : List Move → PageId → ℕ → ℕ → ℕ
latest_value history q at width = value_from (latest history q) at width

-- The loads that a domain completed, in order, each with its address and with the value of its bytes that were stored
-- last before it.
unfoldable pub loads_of : ℕ → List Move → List (ℕ × ℕ)
loads_of domain [] = []
loads_of domain (Makes p bytes ∷ earlier) = loads_of domain earlier
loads_of domain (Stores p from width value ∷ earlier) = loads_of domain earlier
loads_of domain (Combines p from op operand ∷ earlier) = loads_of domain earlier
loads_of domain (Copies d from to ∷ earlier) = loads_of domain earlier
loads_of domain (Zeros d resource ∷ earlier) = loads_of domain earlier
loads_of domain (Drops d resource ∷ earlier) = loads_of domain earlier
loads_of domain (Loads q address width ∷ earlier) =
    let before = loads_of domain earlier in
    if q.domain == domain then before ++ (address, latest_value earlier q (address % 4096) width) ∷ [] else before

-- a history with these moves after it, one after another
abbrev pub with_moves : List Move → List Move → List Move
with_moves [] history = history
with_moves (m ∷ moves) history = with_moves moves (m ∷ history)
