use Rattle.std.proofs.Common.{◌≡◌, length, take}
use Rattle.std.specs.List.{flat_map}
use Rattle.cloak_model.specs.Bundle.{program_bytes}
use Rattle.guest_bundle.proofs.writing.programs_length.Given as goal

abbrev pub invariant-loop-p : goal.invariant-loop-p
invariant-loop-p l = l.size ≡ length (flat_map (program_bytes 2) (take l.p-index l.programs))
