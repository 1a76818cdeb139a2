use Rattle.std.proofs.Common.{◌≡◌, ◌++◌, take}
use Rattle.std.specs.List.{flat_map}
use Rattle.cloak_model.specs.Bundle.{program_bytes}
use Rattle.guest_bundle.proofs.writing.put_programs.Given as goal

abbrev pub invariant-loop-p : goal.invariant-loop-p
invariant-loop-p l = l.out.items ≡ l.fn.out.items ++ flat_map (program_bytes 2) (take l.p-index l.programs)
