use Rattle.std.proofs.Common.{◌≤◌, ◌+◌, ◌*◌, take}
use Rattle.std.specs.List.{flat_map}
use Rattle.cloak_model.specs.DomainState.{space_bytes}
use Rattle.domain_page.specs.Writing.{Appends}
use Rattle.domain_page.proofs.writing.put_spaces.Given as goal

abbrev pub invariant-loop-space : goal.invariant-loop-space
invariant-loop-space l = record {
  few : l.end ≤ l.at + 261 * l.space;
  written : Appends l.fn.into l.into l.at l.end (flat_map space_bytes (take l.space l.r.spaces));
}
