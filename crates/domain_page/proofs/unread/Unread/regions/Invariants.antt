use Rattle.std.proofs.Common.{◌≡◌, ℕ, List, ◌++◌, length, take, drop}
use Rattle.std.specs.List.{flat_map}
use Rattle.cloak_model.specs.declared.resource.Region.{Region}
use Rattle.cloak_model.specs.DomainState.{region_bytes}
use Rattle.domain_page.specs.Reading.{AreRegions}
use Rattle.domain_page.proofs.unread.Unread.regions.Given as goal

abbrev pub invariant-loop-i : goal.invariant-loop-i
invariant-loop-i l = record {
  count : length l.list ≡ l._i;
  reads : (xs : List Region) (rest : List ℕ) → AreRegions l.count xs → l.initial.self.left.now ≡ flat_map region_bytes xs ++ rest →
      (l.list ≡ take l._i xs) × (l.self.left.now ≡ flat_map region_bytes (drop l._i xs) ++ rest);
}
