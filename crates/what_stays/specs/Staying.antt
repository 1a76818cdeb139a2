-- What a step leaves as it was: of the side that it asks, and of the context that it steps.
use Rattle.std.specs.Prelude.{◌≡◌, ◌≢◌, ℕ, Option, None}
use Rattle.cloak_model.specs.declared.context.PageWord.{PageWord}
use Rattle.cloak_model.specs.declared.page_side.PageSide.{Ghosts}
use Rattle.cloak_model.specs.Asking.{Keeps}
use Rattle.cloak_model.specs.Contexts.{Context}
use Rattle.cloak_model.specs.Resources.{Resources, resource_at}

-- Whatever the side stands for, it keeps what `kept` says, it serves the same domain, and of these numbers of
-- resources each that was unused is unused.
pub record SideStays {M : Type 0} (side : Ghosts M) (numbers : ℕ → Type 0) (old new : M) : Type 0 where
  pub keeps : Keeps side.kept old new
  pub same_domain : side.serves new ≡ side.serves old
  pub unused : (n : ℕ) → numbers n → side.is_unused old n → side.is_unused new n

-- every number
abbrev pub IsAny : ℕ → Type 0
IsAny n = Unit {0}

-- a number that is free
abbrev pub IsFree : Resources → ℕ → Type 0
IsFree r n = resource_at r n ≡ None

-- another number than this one
abbrev pub IsOther : ℕ → ℕ → Type 0
IsOther number n = n ≢ number

-- The context is of the same space, and on the same hart. If the step is left open, nothing of the context changed,
-- and no word of a cloaked page was written in.
pub record ContextStays (left_open : Type 0) (old new : Context) (wrote : Option PageWord) : Type 0 where
  pub unchanged : left_open → new ≡ old
  pub unwritten : left_open → wrote ≡ None
  pub same_space : new.space ≡ old.space
  pub same_hart : new.on ≡ old.on
