use Rattle.std.proofs.Common.{◌≡◌, length, take}
use Rattle.std.specs.List.{flat_map}
use Rattle.cloak_model.specs.Bundle.{segment_bytes}
use Rattle.store_command.proofs.place.segments_length.Given as goal

abbrev pub invariant-loop-s : goal.invariant-loop-s
invariant-loop-s l = l.size ≡ length (flat_map segment_bytes (take l.s-index l.segments))
