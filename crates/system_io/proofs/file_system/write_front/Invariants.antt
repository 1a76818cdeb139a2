use Rattle.std.proofs.Common.{◌≤◌, ◌-◌, ℕ, List, length, take}
use Rattle.system_io.specs.Disks.{Extends}
use Rattle.system_io.proofs.file_system.write_front.Given as goal

abbrev pub invariant-loop-n : goal.invariant-loop-n
invariant-loop-n g l = record {
  within : l.n ≤ length l.piece;
  named : (name : List ℕ) → g.D.FileSystem.is_of l.initial.file name → g.D.FileSystem.is_of l.file name;
  told : (name : List ℕ) → g.D.FileSystem.is_of l.initial.file name →
      Extends (g.D.FileSystem.told l.initial.disk) (g.D.FileSystem.told l.disk) name (take l.n l.piece);
}

abbrev pub decreases-loop-n : goal.decreases-loop-n
decreases-loop-n g l = length l.piece - l.n
