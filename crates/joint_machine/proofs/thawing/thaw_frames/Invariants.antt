use Rattle.joint_machine.proofs.Thaws.{ThawsBelow}
use Rattle.joint_machine.proofs.thawing.thaw_frames.Given as goal

-- the frames so far
abbrev pub invariant-loop-f : goal.invariant-loop-f
invariant-loop-f l = ThawsBelow l.fn.pager l.pager l.frames l.f
