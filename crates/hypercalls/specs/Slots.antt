-- The context of a slot that is in use.
use Rattle.std.specs.Prelude.{ℕ, unwrap_or}
use Rattle.cloak_model.specs.Contexts.{Context, context_at, new_context}
use Rattle.cloak_model.specs.DomainState.{Control}

-- if the slot is free, a context of no meaning
abbrev pub context_of : Control → ℕ → Context
context_of d slot = unwrap_or (context_at d.contexts slot) (new_context 0 0 0 0)
