use Rattle.std.proofs.Common.{take}
use Rattle.std.specs.List.{AllByRecursion}
use Rattle.cloak_model.specs.declared.image.Program.{Program}
use Rattle.range_law.specs.Writing.{AreBytes}
use Rattle.run_command.proofs.prepare.programs_are_bytes.Given as goal

abbrev pub invariant-loop-program : goal.invariant-loop-program
invariant-loop-program l = AllByRecursion (λ (x : Program). AreBytes x.bytes) (take l.program-index l.programs)
