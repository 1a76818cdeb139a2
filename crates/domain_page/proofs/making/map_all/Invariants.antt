use Rattle.std.proofs.Common.{◌≡◌, [], take}
use Rattle.cloak_model.specs.Resources.{regions_in, with_regions}
use Rattle.resource_map.specs.Kept.{IsInUse}
use Rattle.resource_map.specs.Owning.{SameSpaces}
use Rattle.domain_page.specs.Making.{CanMap}
use Rattle.domain_page.proofs.making.map_all.Given as goal

abbrev pub invariant-loop-g : goal.invariant-loop-g
invariant-loop-g l = record {
  used : IsInUse l.r l.space;
  same : SameSpaces l.initial.r l.r;
  mapped : regions_in l.initial.r l.space ≡ [] → CanMap l.initial.r l.space l.regions →
      l.r ≡ with_regions l.space (take l.g-index l.regions) l.initial.r;
}
