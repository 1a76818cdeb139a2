use Rattle.std.proofs.Common.{◌≡◌, ◌≤◌, ◌*◌, length, vec_capacity}
use Rattle.joint_machine.specs.Freezing.{pages_known}
use Rattle.frozen_state.specs.FrozenState.{pages_of_domains}
use Rattle.joint_machine.proofs.freezing.freeze_recorded.Given as goal

-- the domains so far
abbrev pub invariant-loop-domain : goal.invariant-loop-domain
invariant-loop-domain l = record {
  capacity : vec_capacity l.frozen ≡ vec_capacity l.fn.room;
  few : length l.frozen.items ≤ l.domain * 16384;
  added : l.frozen.items ≡ pages_known l.pager.table (pages_of_domains l.domain);
}
