use Rattle.std.proofs.Common.{All, take}
use Rattle.frozen_state.specs.Refusing.{IsWholeDomain}
use Rattle.joint_machine.proofs.thawing.check_domains.Given as goal

-- the domains so far are whole
abbrev pub invariant-loop-number : goal.invariant-loop-number
invariant-loop-number l = All IsWholeDomain (take l.number l.domains)
