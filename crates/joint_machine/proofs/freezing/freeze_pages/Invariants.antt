use Rattle.std.proofs.Common.{◌≡◌, ◌≤◌, ◌+◌, ◌++◌, length, vec_capacity}
use Rattle.joint_machine.specs.Freezing.{pages_known}
use Rattle.frozen_state.specs.FrozenState.{pages_of_resource}
use Rattle.joint_machine.proofs.freezing.freeze_pages.Given as goal

-- the pages so far
abbrev pub invariant-loop-page : goal.invariant-loop-page
invariant-loop-page l = record {
  capacity : vec_capacity l.frozen ≡ vec_capacity l.fn.frozen;
  few : length l.frozen.items ≤ length l.fn.frozen.items + l.page;
  added : l.frozen.items ≡ l.fn.frozen.items ++ pages_known l.pager.table (pages_of_resource l.domain l.resource l.page);
}
