use Rattle.joint_machine.proofs.ThawedParts.{MarksFrom}
use Rattle.joint_machine.proofs.thawing.thaw_reservations.Given as goal

-- those of the harts so far
abbrev pub invariant-loop-number : goal.invariant-loop-number
invariant-loop-number l = MarksFrom l.from l.reservations l.number
