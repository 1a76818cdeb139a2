-- A call that failed raised a count, and the bundle of a file is one.
use native.Mathlib.Omega.{arith}
use Rattle.std.proofs.Common.{◌≡◌, ◌-◌, ◌^◌, ◌<◌, ℕ, List, Option, Some, subst}
use Rattle.std.specs.Prelude.{IfSome}
use Rattle.std.proofs.Math.Nat.{lt_irrefl}
use Rattle.cloak_model.specs.declared.image.Bundle.{Bundle}
use Rattle.cloak_model.specs.Bundle.{IsBundle}
use Rattle.cloak_model.specs.Exchange.{Piece, recorded, shown}
use Rattle.guest_bundle.proofs.Only.{one_bundle}
use Rattle.io_traits.specs.Told.{Rose}
use Rattle.command_parts.specs.Bundles.{IsInFile}
use Rattle.command_parts.specs.Outside.{Outside, NothingRose, Raised}
use Rattle.run_command.specs.Outlet.{FailedAt}

pub never_rose : (before now : ℕ) → now ≡ before → Raised before now → ⊥
never_rose before now same raised = lt_irrefl before (subst (λ (n : ℕ). before < n) same raised.greater)

pub never_failed : {S O : Type 0} (piece : Piece) (before after : Outside S O) → NothingRose before after →
    FailedAt Raised piece before after → ⊥
never_failed {S} {O} (recorded bytes) before after nothing fault = never_rose _ _ nothing.writing fault.0
never_failed {S} {O} (shown bytes) before after nothing fault = never_rose _ _ nothing.faults fault.1

-- a count that is not at its last value, and stayed, did not rise
pub never_counted : (before now : ℕ) → before < 2 ^ 64 - 1 → now ≡ before → Rose before now → ⊥
never_counted before now low same rose =
    lt_irrefl before (subst (λ (n : ℕ). before < n) same (omega (arith, low, rose)))

-- the bundle of a file is one
pub same_bundle : (told : Option (List ℕ)) (bytes : List ℕ) (a b : Bundle) → told ≡ Some bytes → IsBundle bytes a →
    IsInFile told b → b ≡ a
same_bundle told bytes a b is is_a in_file =
    one_bundle bytes b a (subst (λ (t : Option (List ℕ)). IfSome t (λ x. IsBundle x b)) is in_file.is) is_a
