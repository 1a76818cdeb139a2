use Rattle.std.proofs.Common.{◌≡◌, vec_capacity}
use Rattle.joint_machine.proofs.Freezes.{DomainsFrom}
use Rattle.joint_machine.proofs.freezing.freeze_domains.Given as goal

-- the programs so far
abbrev pub invariant-loop-number : goal.invariant-loop-number
invariant-loop-number l = record {
  capacity : vec_capacity l.frozen ≡ vec_capacity l.fn.room;
  freezes : DomainsFrom l.pager l.roots l.ended l.domains l.fn.ivs l.ivs l.number l.frozen.items;
}
