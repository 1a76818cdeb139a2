-- What a step of the kernel did: it changed bytes, or it moved a frame to the disk or a block into a frame.
use Rattle.std.specs.Prelude.{ℕ, ◌+◌, ◌==◌, Bool, true, false, ◌&&◌, ◌||◌, not, nat_lt, List, slice_index, slice_index_or, Option, Some, None, is_none, if◌then◌else◌}
use Rattle.std.specs.Int.{to_le_bytes, w32}
use Rattle.cloak_base.specs.Constants.{frame_of}
use Rattle.cloak_model.specs.Contexts.{Context, context_at}
use Rattle.draw_command.specs.declared.run.DiskMove.{DiskMove}

-- Bytes.

-- the byte of this number of a value
abbrev pub byte_of : (value i : ℕ) → ℕ
byte_of value i = slice_index_or (to_le_bytes w32 value) i 0

-- the byte at a place differs from that of a value
abbrev pub differs_at : List ℕ → (place value i : ℕ) → Bool
differs_at bytes place value i = not (slice_index_or bytes (place + i) (byte_of value i) == byte_of value i)

-- some of the first bytes from a place on differ from those of a value
abbrev pub differs : List ℕ → (place width value : ℕ) → Bool
differs bytes place width value =
    (nat_lt 0 width && differs_at bytes place value 0) || ((nat_lt 1 width && differs_at bytes place value 1)
    || ((nat_lt 2 width && differs_at bytes place value 2) || (nat_lt 3 width && differs_at bytes place value 3)))

-- The disk. A host call that was done answers 0 in x10; before it, x10 has the block, and x11 an address in the frame.

abbrev pub move_of : (number block address answer : ℕ) → Option DiskMove
move_of number block address answer =
    if not (answer == 0) then None else
    if number == 2 then Some (record { frame = frame_of address; block = block; is_write = false }) else
    if number == 3 then Some (record { frame = frame_of address; block = block; is_write = true }) else
    None

abbrev pub disk_move : Option ℕ → List ℕ → ℕ → Option DiskMove
disk_move None regs answer = None
disk_move (Some word) regs answer =
    if word == 0x73
    then move_of (slice_index regs 17) (slice_index regs 10) (slice_index regs 11) answer
    else None

-- A program's contexts.

abbrev pub is_free : List (Option Context) → ℕ → Bool
is_free contexts slot = is_none (context_at contexts slot)

-- it has none any more
abbrev pub is_over : List (Option Context) → Bool
is_over contexts =
    is_free contexts 0 && (is_free contexts 1 && (is_free contexts 2 && (is_free contexts 3
    && (is_free contexts 4 && (is_free contexts 5 && (is_free contexts 6 && is_free contexts 7))))))
