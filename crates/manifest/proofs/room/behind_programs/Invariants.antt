use Rattle.std.proofs.Common.{◌≡◌, ◌+◌, length, take}
use Rattle.std.specs.List.{flat_map}
use Rattle.cloak_model.specs.Bundle.{program_bytes}
use Rattle.manifest.proofs.room.behind_programs.Given as goal

-- the room that those so far left
abbrev pub invariant-loop-program : goal.invariant-loop-program
invariant-loop-program l = length (flat_map (program_bytes 2) (take l.program-index l.programs)) + l.left ≡ l.fn.room
