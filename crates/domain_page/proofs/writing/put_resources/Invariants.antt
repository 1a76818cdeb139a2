use Rattle.std.proofs.Common.{◌≤◌, ◌+◌, ◌*◌, take}
use Rattle.std.specs.List.{flat_map}
use Rattle.cloak_model.specs.DomainState.{resource_bytes}
use Rattle.domain_page.specs.Writing.{Appends}
use Rattle.domain_page.proofs.writing.put_resources.Given as goal

abbrev pub invariant-loop-n : goal.invariant-loop-n
invariant-loop-n l = record {
  few : l.end ≤ l.at + 9 * l.n;
  written : Appends l.fn.into l.into l.at l.end (flat_map resource_bytes (take l.n l.r.held));
}
