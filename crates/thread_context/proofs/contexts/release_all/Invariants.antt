use Rattle.cloak_model.specs.Contexts.{unless_reserved}
use Rattle.std.proofs.Common.{◌≡◌}
use Rattle.thread_context.proofs.Reserving.{mapped_below}
use Rattle.thread_context.proofs.contexts.release_all.Given as goal

abbrev pub invariant-loop-slot : goal.invariant-loop-slot
invariant-loop-slot l = l.slots ≡ mapped_below (unless_reserved l.word) l.slot-index l.fn.slots
