use Rattle.std.proofs.Common.{◌≡◌, ◌+◌, drop}
use Rattle.joint_machine.specs.Storing.{place_before}
use Rattle.joint_machine.proofs.storing.place_among.Given as goal

-- none so far
abbrev pub invariant-loop-i : goal.invariant-loop-i
invariant-loop-i l = place_before l.number (drop l.i l.files) + l.i ≡ place_before l.number l.files
