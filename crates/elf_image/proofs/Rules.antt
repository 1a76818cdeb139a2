-- A list of rules without a fault: each of them holds.
use Rattle.std.proofs.Common.{◌≡◌, ℕ, Bool, true, false, not, List, ◌∷◌, Option, Some, None, refl}
use Rattle.elf_image.specs.declared.fault.ElfFault.{ElfFault}
use Rattle.elf_image.specs.declared.fault.ElfCause.{ElfCause}
use Rattle.elf_image.specs.Elf.{rule, first_of, first}

pub first_of-none : (a b : Option ElfFault) → first_of a b ≡ None → (a ≡ None) × (b ≡ None)
first_of-none None b e = (refl, e)
first_of-none (Some fault) b e = cc

pub rule-none : (holds : Bool) (cause : ElfCause) (at : ℕ) → rule holds cause at ≡ None → holds ≡ true
rule-none true cause at e = refl
rule-none false cause at e = cc

pub not-true : (b : Bool) → not b ≡ true → b ≡ false
not-true true e = cc
not-true false e = refl

-- the first of some rules holds, and the others have no fault
pub rules-none : (holds : Bool) (cause : ElfCause) (at : ℕ) (others : List (Option ElfFault)) →
    first (rule holds cause at ∷ others) ≡ None → (holds ≡ true) × (first others ≡ None)
rules-none true cause at others e = (refl, e)
rules-none false cause at others e = cc
