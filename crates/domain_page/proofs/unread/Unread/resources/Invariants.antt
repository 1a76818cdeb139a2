use Rattle.std.proofs.Common.{◌≡◌, ℕ, List, ◌++◌, length, Option}
use Rattle.std.specs.List.{flat_map}
use Rattle.cloak_model.specs.declared.resource.Resource.{Resource}
use Rattle.cloak_model.specs.DomainState.{resource_bytes}
use Rattle.domain_page.specs.Reading.{AreSixteen, IsReadableNumber, all}
use Rattle.domain_page.proofs.Read.{HasRead}
use Rattle.domain_page.proofs.unread.Unread.resources.Given as goal

abbrev pub invariant-loop-n : goal.invariant-loop-n
invariant-loop-n l = record {
  count : length l.held ≡ 16;
  reads : (xs : List (Option Resource)) (rest : List ℕ) → AreSixteen IsReadableNumber xs → l.initial.self.left.now ≡ flat_map resource_bytes xs ++ rest →
      HasRead resource_bytes all xs rest l.n l.self.left.now l.held;
}
