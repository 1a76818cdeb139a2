use Rattle.thread_context.specs.Recorded.{root_at}
use Rattle.joint_machine.proofs.ThawedParts.{PutsRoots}
use Rattle.joint_machine.proofs.thawing.put_roots.Given as goal

-- those of the spaces so far
abbrev pub invariant-loop-number : goal.invariant-loop-number
invariant-loop-number l = PutsRoots l.from l.domain (root_at l.fn.roots) (root_at l.roots) l.number
