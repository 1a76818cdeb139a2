use Rattle.std.proofs.Common.{◌≡◌, ◌+◌, ◌*◌, take}
use Rattle.std.specs.List.{flat_map}
use Rattle.cloak_model.specs.DomainState.{region_bytes}
use Rattle.domain_page.specs.Writing.{Appends}
use Rattle.domain_page.proofs.writing.put_regions.Given as goal

abbrev pub invariant-loop-g : goal.invariant-loop-g
invariant-loop-g l = record {
  end : l.end ≡ l.at + 16 * l.g-index;
  written : Appends l.fn.into l.into l.at l.end (flat_map region_bytes (take l.g-index l.regions));
}
