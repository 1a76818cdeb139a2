use Rattle.std.proofs.Common.{◌≡◌, ◌≤◌, ◌+◌, ◌*◌, length, take}
use Rattle.std.specs.List.{flat_map}
use Rattle.frozen_state.specs.FrozenState.{domain_bytes}
use Rattle.joint_machine.proofs.ThawedParts.{DomainsBelow}
use Rattle.joint_machine.proofs.thawing.thaw_domains.Given as goal

-- the programs so far, and where the next domain begins
abbrev pub invariant-loop-number : goal.invariant-loop-number
invariant-loop-number l = record {
  at : l.at ≡ 60 + length (flat_map domain_bytes (take l.number l.f.domains));
  few : l.at ≤ 60 + 4197 * l.number;
  thawed : DomainsBelow l.pager.keys l.f l.domains.items l.number;
}
