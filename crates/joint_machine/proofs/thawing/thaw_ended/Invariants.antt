use Rattle.std.proofs.Common.{◌≡◌, length}
use Rattle.joint_machine.proofs.ThawedParts.{EndsFrom}
use Rattle.joint_machine.proofs.thawing.thaw_ended.Given as goal

-- that of the domains so far
abbrev pub invariant-loop-number : goal.invariant-loop-number
invariant-loop-number l = record {
  count : length l.ended ≡ 4;
  ends : EndsFrom l.from l.ended l.number;
}
