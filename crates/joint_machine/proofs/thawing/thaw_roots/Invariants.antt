use Rattle.thread_context.specs.Recorded.{root_at}
use Rattle.joint_machine.proofs.ThawedParts.{RootsFrom}
use Rattle.joint_machine.proofs.thawing.thaw_roots.Given as goal

-- those of the domains so far
abbrev pub invariant-loop-number : goal.invariant-loop-number
invariant-loop-number l = RootsFrom l.from (root_at l.roots) l.number
