use Rattle.joint_machine.proofs.Thaws.{RestoresBelow}
use Rattle.joint_machine.proofs.thawing.restore_recorded.Given as goal

-- the pages so far
abbrev pub invariant-loop-p : goal.invariant-loop-p
invariant-loop-p l = RestoresBelow l.fn.pager l.pager l.recorded l.p-index
