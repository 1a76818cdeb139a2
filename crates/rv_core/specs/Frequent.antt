-- The effect of a word that spells a frequent instruction.
use Rattle.std.specs.Prelude.{ℕ, ◌≡◌, List, Option, Some, IfSome, option_map}
use Rattle.rv_isa.specs.declared.instr.Instr.{Instr}
use Rattle.cloak_model.specs.Effect.{effect}
use Rattle.cloak_model.specs.declared.outcome.Effect.{Effect}
use Rattle.cloak_model.specs.declared.outcome.Effect.TheVariants.{Write, Jump, Go, Load, Store, System, Nothing, Raise}

-- the effect that was found, if one was, is that of the instruction which is spelled
abbrev pub IsEffectOf : List ℕ → ℕ → Option Instr → Option Effect → Type 0
IsEffectOf r pc spelled found = IfSome found (λ e. option_map (λ i. effect i r pc) spelled ≡ Some e)

-- it is not decided by the mode and the control and status registers
abbrev pub IsPlain : Effect → Type 0
IsPlain System = ⊥
IsPlain (Write rd value) = Unit {0}
IsPlain (Jump rd link target) = Unit {0}
IsPlain (Go target) = Unit {0}
IsPlain (Load rd va width signed) = Unit {0}
IsPlain (Store va width value) = Unit {0}
IsPlain Nothing = Unit {0}
IsPlain (Raise cause tval) = Unit {0}
