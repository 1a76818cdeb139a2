-- While a run goes on, no draw was missing.
use Rattle.std.specs.Prelude.{ℕ, ◌≡◌, ◌<◌, false, length, take, None, Ok}
use Rattle.cloak_model.specs.declared.image.Bundle.{Bundle}
use Rattle.cloak_model.specs.Beginning.{Beginning}
use Rattle.cloak_model.specs.Run.{Run, run_from, last_stop}
use Rattle.kernel_isolation.specs.Isolation.{joint_until}

-- None of the first n steps of a run stopped it, or it made no more.
abbrev pub NoneStopped : ℕ → Run → Type 0
NoneStopped n r = last_stop None (take n r.turns) ≡ None

-- The law, of each run: none of the steps before its last one stopped it.
abbrev pub OnlyLastStops : Type 0
OnlyLastStops =
    (b : Bundle) (from : Beginning) (budget : ℕ) (r : Run) → run_from b from budget ≡ Ok r → (n : ℕ) →
    n < length r.turns → NoneStopped n r

-- The law, of each moment from which a run goes on: no draw was missing.
abbrev pub NothingIsMissed : Type 0
NothingIsMissed =
    (b : Bundle) (from : Beginning) (budget : ℕ) (r : Run) → run_from b from budget ≡ Ok r → (n : ℕ) → NoneStopped n r →
    (joint_until n r).memory.ledger.missed ≡ false
