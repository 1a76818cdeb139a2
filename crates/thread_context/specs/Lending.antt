-- What the slots end as, if one of them is lent.
use Rattle.std.specs.Prelude.{ℕ, List, Option, slice_set}
use Rattle.std.specs.Borrow.{Lends, MutBor, Fml}
use Rattle.std.specs.contracts.option.Option as option
use Rattle.cloak_model.specs.Contexts.{Context, with_context}
use Rattle.thread_context.specs.contracts.context.Context as context
use Rattle.thread_context.specs.contracts.contexts.Contexts as contexts

-- r lends a slot: what is last written through r ends up there, and the others stay
abbrev pub LendsSlot : MutBor (List (Option Context)) → ℕ → MutBor (Option Context) → Fml
LendsSlot c slot r = Lends contexts.the_row (option.the_row context.the_row) c r (slice_set c.now slot)

-- r lends the context of a slot
abbrev pub LendsContext : MutBor (List (Option Context)) → ℕ → MutBor Context → Fml
LendsContext c slot r = Lends contexts.the_row context.the_row c r (λ last. with_context slot last c.now)
