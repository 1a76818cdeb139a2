use Rattle.std.proofs.Common.{◌≡◌, ℕ, List, ◌++◌, length, Option}
use Rattle.std.specs.List.{flat_map}
use Rattle.cloak_model.specs.Contexts.{Context}
use Rattle.cloak_model.specs.DomainState.{slot_bytes}
use Rattle.domain_page.specs.Reading.{AreEight, IsReadableSlot, unmarked}
use Rattle.domain_page.proofs.Read.{HasRead}
use Rattle.domain_page.proofs.unread.Unread.slots.Given as goal

abbrev pub invariant-loop-i : goal.invariant-loop-i
invariant-loop-i l = record {
  count : length l.slots ≡ 8;
  reads : (xs : List (Option Context)) (rest : List ℕ) → AreEight IsReadableSlot xs → l.initial.self.left.now ≡ flat_map slot_bytes xs ++ rest →
      HasRead slot_bytes unmarked xs rest l.i l.self.left.now l.slots;
}
