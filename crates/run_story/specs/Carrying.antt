-- Where bytes of a page are, of whatever time, changed or not: in the frames in which it was shown, and in the blocks of the disk
-- and the frames to which such a frame or block was moved since.
use Rattle.std.specs.Prelude.{ℕ, ◌==◌, ◌&&◌, Bool, true, false, not, List, replicate, slice_index_or, slice_set, Option, Some, None, if◌then◌else◌}
use Rattle.replayed_run.specs.declared.frames.DiskCall.{DiskCall}
use Rattle.run_story.specs.declared.carriers.Carriers.{Carriers}

pub record Carrying : Type 0 where
  -- of each frame, and of each block, whether it has bytes of the page
  pub frames : List Bool
  pub blocks : List Bool
  -- the frame, besides those that are told of anyway, into which such bytes were last read
  pub third : Option ℕ

abbrev pub carrying_of : Carriers → Carrying
carrying_of c = record { frames = c.frames.items; blocks = c.blocks.items; third = c.third }

abbrev pub none_carried : ℕ → ℕ → Carrying
none_carried frames blocks =
    record { frames = replicate frames false; blocks = replicate blocks false; third = None }

abbrev pub has_bytes : List Bool → ℕ → Bool
has_bytes places n = slice_index_or places n false

-- a frame shows the page, or something else
abbrev pub carrying_shown : ℕ → Bool → Carrying → Carrying
carrying_shown frame is_it c = record c { frames = slice_set c.frames frame is_it }

-- A block was moved.

abbrev pub is_frame : Option ℕ → ℕ → Bool
is_frame None frame = false
is_frame (Some f) frame = f == frame

-- into a frame, which is told of anyway or not
abbrev pub third_after : Bool → DiskCall → Carrying → Option ℕ
third_after known call c =
    if has_bytes c.blocks call.block && not known
    then Some call.frame
    else (if is_frame c.third call.frame then None else c.third)

abbrev pub carrying_moved : Bool → DiskCall → Carrying → Carrying
carrying_moved known call c =
    if call.is_write
    then record c { blocks = slice_set c.blocks call.block (has_bytes c.frames call.frame) }
    else record {
      frames = slice_set c.frames call.frame (has_bytes c.blocks call.block);
      blocks = c.blocks;
      third = third_after known call c;
    }

-- it was one that has bytes of the page, or went to or from a frame that has
abbrev pub is_carried : Carrying → DiskCall → Bool
is_carried c call = if has_bytes c.frames call.frame then true else has_bytes c.blocks call.block
