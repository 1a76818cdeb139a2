use Rattle.joint_machine.proofs.ThawedParts.{HartsFrom}
use Rattle.joint_machine.proofs.thawing.thaw_harts.Given as goal

-- the harts so far
abbrev pub invariant-loop-number : goal.invariant-loop-number
invariant-loop-number l = HartsFrom l.from l.harts.items l.number
