use Rattle.std.proofs.Common.{◌≡◌, ◌+◌, [], All, length, reverse}
use Rattle.cloak_model.specs.Bundle.{IsProgramIn}
use Rattle.cloak_model.specs.Cloaking.{CloakedMemory}
use Rattle.cloaked_side.specs.Holding.{Holds, SameSize, domains_in, frames_of}
use Rattle.joint_machine.specs.Starting.{IsReady, KeepsUnplaced}
use Rattle.joint_machine.proofs.Placed.{PlacesFrom}
use Rattle.joint_machine.proofs.placing.place_programs.Given as goal

-- of the programs those that are left, the last one first, are placed next
abbrev pub invariant-loop-p : goal.invariant-loop-p
invariant-loop-p l = record {
  size : SameSize l.fn.memory l.memory;
  ready : IsReady l.memory.pager l.domain 0;
  others : KeepsUnplaced l.fn.memory.pager l.memory.pager;
  empty : l.fn.memory.shadows.live ≡ [] → l.memory.shadows.live ≡ [];
  count : l.domain + length l.programs.items ≡ domains_in l.fn.memory;
  fits : All (IsProgramIn (frames_of l.fn.memory)) (reverse l.programs.items);
  places : (m : CloakedMemory) → Holds l.fn.memory m →
      PlacesFrom l.memory l.domain (reverse l.programs.items) l.fn.programs m;
}

abbrev pub decreases-loop-p : goal.decreases-loop-p
decreases-loop-p l = length l.programs.items
