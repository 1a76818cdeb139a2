use Rattle.std.proofs.Common.{◌≡◌, ◌≤◌, ◌*◌, length, take}
use Rattle.std.specs.List.{flat_map}
use Rattle.frozen_state.specs.FrozenState.{maybe_word}
use Rattle.joint_machine.proofs.thawing.roots_length.Given as goal

-- those so far
abbrev pub invariant-loop-root : goal.invariant-loop-root
invariant-loop-root l = record {
  is : l.length ≡ length (flat_map maybe_word (take l.root-index l.roots));
  few : l.length ≤ 5 * l.root-index;
}
