use Rattle.joint_machine.proofs.Drawn.{CountsKeys}
use Rattle.joint_machine.proofs.drawing.count_keys.Given as goal

abbrev pub invariant-loop-p : goal.invariant-loop-p
invariant-loop-p l = CountsKeys l.p-index l.count l.programs
