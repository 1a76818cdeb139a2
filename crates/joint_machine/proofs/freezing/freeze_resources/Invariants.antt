use Rattle.std.proofs.Common.{◌≡◌, ◌≤◌, ◌+◌, ◌*◌, ◌++◌, length, vec_capacity}
use Rattle.joint_machine.specs.Freezing.{pages_known}
use Rattle.frozen_state.specs.FrozenState.{pages_of_resources}
use Rattle.joint_machine.proofs.freezing.freeze_resources.Given as goal

-- the resources so far
abbrev pub invariant-loop-resource : goal.invariant-loop-resource
invariant-loop-resource l = record {
  capacity : vec_capacity l.frozen ≡ vec_capacity l.fn.frozen;
  few : length l.frozen.items ≤ length l.fn.frozen.items + l.resource * 1024;
  added : l.frozen.items ≡ l.fn.frozen.items ++ pages_known l.pager.table (pages_of_resources l.domain l.resource);
}
