use Rattle.std.proofs.Common.{◌≡◌, ℕ, List, ◌++◌, length, Option}
use Rattle.std.specs.List.{flat_map}
use Rattle.cloak_model.specs.declared.resource.Region.{Region}
use Rattle.cloak_model.specs.DomainState.{space_bytes}
use Rattle.domain_page.specs.Reading.{AreEight, IsReadableSpace, all}
use Rattle.domain_page.proofs.Read.{HasRead}
use Rattle.domain_page.proofs.unread.Unread.spaces.Given as goal

abbrev pub invariant-loop-i : goal.invariant-loop-i
invariant-loop-i l = record {
  count : length l.spaces ≡ 8;
  reads : (xs : List (Option (List Region))) (rest : List ℕ) → AreEight IsReadableSpace xs → l.initial.self.left.now ≡ flat_map space_bytes xs ++ rest →
      HasRead space_bytes all xs rest l.i l.self.left.now l.spaces;
}
