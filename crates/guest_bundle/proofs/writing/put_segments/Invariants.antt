use Rattle.std.proofs.Common.{◌≡◌, ◌++◌, take}
use Rattle.std.specs.List.{flat_map}
use Rattle.cloak_model.specs.Bundle.{segment_bytes}
use Rattle.guest_bundle.proofs.writing.put_segments.Given as goal

abbrev pub invariant-loop-s : goal.invariant-loop-s
invariant-loop-s l = l.out.items ≡ l.fn.out.items ++ flat_map segment_bytes (take l.s-index l.segments)
