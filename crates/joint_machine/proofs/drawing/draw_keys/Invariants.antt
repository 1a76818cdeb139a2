use Rattle.joint_machine.proofs.Drawn.{Draws}
use Rattle.joint_machine.proofs.drawing.draw_keys.Given as goal

abbrev pub invariant-loop-number : goal.invariant-loop-number
invariant-loop-number l = Draws l.fn.stream l.stream l.number l.keys
