use Rattle.std.proofs.Common.{◌≡◌, ℕ, List, ◌++◌, length, Option}
use Rattle.std.specs.List.{flat_map}
use Rattle.cloak_model.specs.Contexts.{Context}
use Rattle.frozen_state.specs.DomainPage.{slot_mark_bytes}
use Rattle.domain_page.specs.Reading.{AreUnmarked, all}
use Rattle.domain_page.proofs.Read.{HasRead}
use Rattle.domain_page.proofs.unread.Unread.marks.Given as goal

abbrev pub invariant-loop-i : goal.invariant-loop-i
invariant-loop-i l = record {
  count : length l.marked ≡ 8;
  reads : (xs : List (Option Context)) (rest : List ℕ) → AreUnmarked l.slots xs →
      l.initial.self.left.now ≡ flat_map slot_mark_bytes xs ++ rest →
      HasRead slot_mark_bytes all xs rest l.i l.self.left.now l.marked;
}
