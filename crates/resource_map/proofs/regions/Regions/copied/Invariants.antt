use Rattle.std.proofs.Common.{◌≡◌, ◌≤◌, length, map, take}
use Rattle.cloak_model.specs.Fork.{copied_region}
use Rattle.resource_map.proofs.regions.Regions.copied.Given as goal

-- the regions so far
abbrev pub invariant-loop-g : goal.invariant-loop-g
invariant-loop-g l = (l.list.items ≡ map (copied_region l.copies) (take l.g-index l.g-items)) × (length l.list.items ≤ l.g-index)
