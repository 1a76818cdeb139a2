-- How a machine goes on from a frozen state.
use Rattle.std.specs.Prelude.{ℕ, ◌≡◌, Some}
use Rattle.cloak_base.specs.Random.{Random}
use Rattle.cloak_model.specs.declared.image.Bundle.{Bundle}
use Rattle.cloak_model.specs.Ledger.{Keys}
use Rattle.cloak_model.specs.Parts as model
use Rattle.frozen_state.specs.Continuing.{next_moment}
use Rattle.frozen_state.specs.Thawing.{CanGoOn, keys_and_rest}
use Rattle.frozen_state.specs.declared.frozen.Frozen.{Frozen}
use Rattle.joint_machine.specs.Thawing.{IsThawable}
use Rattle.cloak_machine.specs.Standing.{StandsForMoment}
use Rattle.cloak_machine.specs.declared.machine.Machine.{Machine}

-- No test fails, and the machine stands for the moment at which each state with this value goes on that can.
pub record ThawsMachine (b : Bundle) (stream : Random) (f : Frozen) (machine : Machine) : Type 0 where
  pub keys : Keys
  pub rest : Random
  pub drawn : keys_and_rest b f.draws stream ≡ Some (keys, rest)
  pub thawable : IsThawable keys f
  pub stands : (j : model.Joint) → CanGoOn b stream f j → StandsForMoment machine (next_moment b f.steps j)
