-- What a machine counts, and how often it reads frames.
use Rattle.std.specs.Prelude.{◌≡◌, true}
use Rattle.shadow_fold.specs.Fold.{Fold}
use Rattle.shadow_fold.specs.Reads.{Spent}
use Rattle.cloaked_side.specs.Tracking.{Tracks, spent_in}
use Rattle.cloak_machine.specs.declared.machine.Machine.{Machine}

-- The machine counts accesses, and its translations, its counts and what its frames hold are those of the fold over the
-- shadow events of its run.
pub record CountsAccesses (machine : Machine) (s : Fold) : Type 0 where
  pub counting : machine.joint.memory.counting ≡ true
  pub tracks : Tracks machine.joint.memory s

-- how often a machine read frames, and how many of its looks missed
abbrev pub spent_by : Machine → Spent
spent_by machine = spent_in machine.joint.memory
