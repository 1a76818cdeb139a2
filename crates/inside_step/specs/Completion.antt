-- Which instructions are completed.
use Rattle.cloak_model.specs.declared.inside.Ran.{Ran}
use Rattle.cloak_model.specs.declared.inside.Ran.TheVariants.{Stay, Loaded, Trap, Ecall, Stopped}

-- the instruction is not completed: it raised a cause, is an ecall, or a question of it was answered `Stopped`
abbrev pub IsLeftOpen : Ran → Type 0
IsLeftOpen Stay = ⊥
IsLeftOpen (Loaded address value) = ⊥
IsLeftOpen (Trap cause address) = Unit {0}
IsLeftOpen Ecall = Unit {0}
IsLeftOpen Stopped = Unit {0}
