use Rattle.std.proofs.Common.{◌≤◌, ◌+◌, ◌*◌, take}
use Rattle.std.specs.List.{flat_map}
use Rattle.cloak_model.specs.DomainState.{slot_bytes}
use Rattle.domain_page.specs.Writing.{Appends}
use Rattle.domain_page.proofs.writing.put_slots.Given as goal

abbrev pub invariant-loop-slot : goal.invariant-loop-slot
invariant-loop-slot l = record {
  few : l.end ≤ l.at + 143 * l.slot-index;
  written : Appends l.fn.into l.into l.at l.end (flat_map slot_bytes (take l.slot-index l.slots));
}
