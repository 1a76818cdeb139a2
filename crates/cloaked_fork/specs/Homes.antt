-- Contexts and their spaces.
use Rattle.std.specs.Prelude.{ℕ, List, Option, IfSome}
use Rattle.cloak_model.specs.Contexts.{Context, context_at}
use Rattle.cloak_model.specs.Resources.{Resources}
use Rattle.resource_map.specs.Kept.{IsInUse}

-- each context is of a space that is in use
abbrev pub AllInUse : List (Option Context) → Resources → Type 0
AllInUse contexts r = (slot : ℕ) → IfSome (context_at contexts slot) (λ c. IsInUse r c.space)
