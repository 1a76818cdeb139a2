-- How a run refuses what the kernel's side presents instead of what is recorded.
use Rattle.std.specs.Prelude.{ℕ, ◌≡◌, ◌<◌, List, ◌∷◌, ◌++◌, length, Some, None, is_some, slice_get, slice_index_or}
use Rattle.cloak_base.specs.declared.causes.Violation.{Violation}
use Rattle.cloak_model.specs.declared.image.Bundle.{Bundle}
use Rattle.cloak_model.specs.Items.{Item}
use Rattle.cloak_model.specs.Items as item
use Rattle.cloak_model.specs.DomainState.{Domain}
use Rattle.cloak_model.specs.Joint.{joint_step}
use Rattle.cloak_model.specs.Run.{Run}
use Rattle.cause_law.specs.Causes.{CountIsPresented, EndsArePresented, EndsOrStops, RefusesPresented, StepPresents, moment_at}

-- a step met a violation only if it was presented in it
abbrev pub ViolationsArePresented : Bundle → Run → Type 0
ViolationsArePresented b r =
    (n : ℕ) → n < length r.turns → (v : Violation) → (joint_step (moment_at b r n)).violation ≡ Some v →
    StepPresents b r n v

-- After the item of a question that was stopped, its step wrote that the domain ended, or a draw was missing and the run
-- stopped.
abbrev pub StoppedStepsEnd : Bundle → Run → Type 0
StoppedStepsEnd b r =
    (n : ℕ) → n < length r.turns → (d : ℕ) (before after : List Item) →
    (joint_step (moment_at b r n)).items ≡ before ++ item.Stopped d ∷ after →
    EndsOrStops d (joint_step (moment_at b r n)) after

-- Only what was presented was refused, and all of it.
pub record RefusesRightly (b : Bundle) (r : Run) : Type 0 where
  -- whatever a step met was presented in it
  pub met : ViolationsArePresented b r
  -- a domain that ended did so in a step that presented what it ended by
  pub ended : EndsArePresented b r
  -- those that are listed have ended, and no other
  pub listed : (d : ℕ) (domain : Domain) → d < 4 → slice_get r.closed.joint.domains d ≡ Some domain →
      domain.control.ended ≡ is_some (slice_index_or r.closed.joint.ended d None)
  -- and if resumings were counted, a step presented what it counted
  pub counted : 0 < r.closed.joint.refused → CountIsPresented b r
  -- what was presented ended its domain in that step, or was counted
  pub presented : RefusesPresented b r
  -- a question that was stopped ended its domain, or the run
  pub stopped : StoppedStepsEnd b r
