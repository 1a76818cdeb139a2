use Rattle.joint_machine.proofs.Started.{AreStarted}
use Rattle.joint_machine.proofs.starting.start_domains.Given as goal

abbrev pub invariant-loop-number : goal.invariant-loop-number
invariant-loop-number l = AreStarted l.domains.items l.number l.programs
