use Rattle.std.proofs.Common.{◌≡◌, drop}
use Rattle.joint_machine.specs.Placings.{covers}
use Rattle.joint_machine.proofs.placings.is_covered.Given as goal

-- none so far
abbrev pub invariant-loop-p : goal.invariant-loop-p
invariant-loop-p l = covers (drop l.p-index l.placings) l.f ≡ covers l.placings l.f
