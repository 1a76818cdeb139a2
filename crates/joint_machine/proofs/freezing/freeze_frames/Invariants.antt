use Rattle.std.proofs.Common.{◌≡◌, vec_capacity}
use Rattle.joint_machine.proofs.Freezes.{FreezesFrom}
use Rattle.joint_machine.proofs.freezing.freeze_frames.Given as goal

-- the frames so far
abbrev pub invariant-loop-f : goal.invariant-loop-f
invariant-loop-f l = record {
  capacity : vec_capacity l.frames ≡ vec_capacity l.fn.room;
  freezes : FreezesFrom l.fn.pager l.pager l.fn.ivs l.ivs l.f l.frames.items;
}
