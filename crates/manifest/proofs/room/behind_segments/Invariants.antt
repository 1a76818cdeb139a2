use Rattle.std.proofs.Common.{◌≡◌, ◌+◌, length, take}
use Rattle.std.specs.List.{flat_map}
use Rattle.cloak_model.specs.Bundle.{segment_bytes}
use Rattle.manifest.proofs.room.behind_segments.Given as goal

-- the room that those so far left
abbrev pub invariant-loop-segment : goal.invariant-loop-segment
invariant-loop-segment l = length (flat_map segment_bytes (take l.segment-index l.segments)) + l.left ≡ l.fn.room
