-- A program has words of 32 bits in the registers and as the program counters of its contexts, and as the numbers of its
-- files.
use Rattle.std.specs.Prelude.{ℕ, List, IfSome, Option, Some, None}
use Rattle.std.specs.List.{AllByRecursion}
use Rattle.cloak_model.specs.declared.resource.Owner.{Owner}
use Rattle.cloak_model.specs.declared.resource.Owner.TheVariants.{Space, File}
use Rattle.cloak_model.specs.Contexts.{Context}
use Rattle.cloak_model.specs.Record.{IsWord}
use Rattle.cloak_model.specs.Resources.{Resources, resource_at}

-- Words of 32 bits.
abbrev pub AreWords : List ℕ → Type 0
AreWords words = AllByRecursion IsWord words

-- A context has words in its registers and as its program counter.
pub record HasContextWords (c : Context) : Type 0 where
  pub regs : AreWords c.regs
  pub pc : IsWord c.pc

-- A slot is free, or has such a context.
abbrev pub HasSlotWords : Option Context → Type 0
HasSlotWords None = Unit {0}
HasSlotWords (Some c) = HasContextWords c

-- The number of a file is a word. A private resource has none.
abbrev pub HasOwnerWord : Owner → Type 0
HasOwnerWord (Space space) = Unit {0}
HasOwnerWord (File number) = IsWord number

-- The files among these resources have words as their numbers.
abbrev pub AreFileWords : Resources → Type 0
AreFileWords r = (n : ℕ) → IfSome (resource_at r n) (λ held. HasOwnerWord held.owner)
