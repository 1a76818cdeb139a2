use Rattle.joint_machine.proofs.Thaws.{FillsBelow}
use Rattle.joint_machine.proofs.thawing.fill_frames.Given as goal

-- the frames so far
abbrev pub invariant-loop-f : goal.invariant-loop-f
invariant-loop-f l = FillsBelow l.fn.pager l.pager l.frames l.f
