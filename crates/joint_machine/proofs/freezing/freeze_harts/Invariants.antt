use Rattle.std.proofs.Common.{◌≡◌, map, take, vec_capacity}
use Rattle.frozen_state.specs.FrozenState.{hart_with}
use Rattle.joint_machine.proofs.freezing.freeze_harts.Given as goal

-- the harts so far
abbrev pub invariant-loop-h : goal.invariant-loop-h
invariant-loop-h l = record {
  capacity : vec_capacity l.frozen ≡ vec_capacity l.fn.room;
  made : l.frozen.items ≡ map (hart_with l.marks) (take l.h-index l.harts);
}
