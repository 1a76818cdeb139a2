use Rattle.std.proofs.Common.{ℕ, ◌<◌}
use Rattle.std.specs.Prelude.{IfSome}
use Rattle.cloak_model.specs.Contexts.{context_at}
use Rattle.frozen_state.specs.Limits.{IsContext}
use Rattle.domain_page.proofs.limits.are_slots.Given as goal

abbrev pub invariant-loop-slot : goal.invariant-loop-slot
invariant-loop-slot l = (k : ℕ) → k < l.slot-index → IfSome (context_at l.slots k) (IsContext l.r)
