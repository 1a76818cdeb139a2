use Rattle.joint_machine.proofs.Freezes.{ResealsBelow}
use Rattle.joint_machine.proofs.freezing.reseal_all.Given as goal

-- the frames so far
abbrev pub invariant-loop-f : goal.invariant-loop-f
invariant-loop-f l = ResealsBelow l.fn.pager l.pager l.fn.s l.s l.f
