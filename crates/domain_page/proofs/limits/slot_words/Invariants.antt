use Rattle.std.proofs.Common.{take}
use Rattle.std.specs.List.{AllByRecursion}
use Rattle.frozen_state.specs.Words.{HasSlotWords}
use Rattle.domain_page.proofs.limits.slot_words.Given as goal

abbrev pub invariant-loop-slot : goal.invariant-loop-slot
invariant-loop-slot l = AllByRecursion HasSlotWords (take l.slot-index l.slots)
