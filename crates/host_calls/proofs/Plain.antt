-- An effect that the mode and the control and status registers do not decide.
use Rattle.std.proofs.Common.{◌≡◌, refl}
use Rattle.cloak_model.specs.declared.outcome.Effect.{Effect}
use Rattle.cloak_model.specs.declared.outcome.Effect.TheVariants.{Write, Jump, Go, Load, Store, System, Nothing, Raise}
use Rattle.rv_core.specs.Frequent.{IsPlain}

pub plain_unless : (e : Effect) → (e ≡ System → ⊥) → IsPlain e
plain_unless (Write rd value) other = tt
plain_unless (Jump rd link target) other = tt
plain_unless (Go target) other = tt
plain_unless (Load rd address width signed) other = tt
plain_unless (Store address width value) other = tt
plain_unless System other = absurd (other refl)
plain_unless Nothing other = tt
plain_unless (Raise cause tval) other = tt
