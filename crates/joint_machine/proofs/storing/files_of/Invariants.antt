use Rattle.std.proofs.Common.{◌≡◌, ◌≤◌, ◌-◌, length}
use Rattle.resource_map.specs.Kept.{IsSound}
use Rattle.hypercalls.specs.Standing.{control_of}
use Rattle.joint_machine.proofs.Sorting.{PlacesFrom}
use Rattle.joint_machine.proofs.storing.files_of.Given as goal

-- those of the last k numbers
abbrev pub invariant-loop-k : goal.invariant-loop-k
invariant-loop-k l = record {
  value : IsSound (control_of l.domain).resources → l.files.items ≡ PlacesFrom (control_of l.domain).resources (16 - l.k);
  sound : 1 ≤ l.k → IsSound (control_of l.domain).resources;
  count : length l.files.items ≤ l.k;
}
