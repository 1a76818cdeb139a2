-- A run in two parts: at most n steps, and then k more from the moment after them.
use Rattle.std.specs.Prelude.{ℕ, ◌≡◌, ◌+◌, ◌++◌, length, Some, None}
use Rattle.cloak_base.specs.declared.causes.Stop.{Stop}
use Rattle.cloak_model.specs.Joint.{Moment}
use Rattle.cloak_model.specs.Run.{turns_from, last_stop}
use Rattle.record_law.specs.Steps.{moment_after}

-- None of the first n steps stopped the run: they are n, and k more are made from the moment after them.
pub record GoesOn (n k : ℕ) (m : Moment) : Type 0 where
  pub count : length (turns_from n m) ≡ n
  pub turns : turns_from (n + k) m ≡ turns_from n m ++ turns_from k (moment_after m (turns_from n m))

abbrev pub RunsGoOn : Type 0
RunsGoOn = (n k : ℕ) (m : Moment) → last_stop None (turns_from n m) ≡ None → GoesOn n k m

-- One of the first n steps stopped the run: a larger budget makes no step more.
abbrev pub StoppedRunsStay : Type 0
StoppedRunsStay =
    (n k : ℕ) (m : Moment) (cause : Stop) → last_stop None (turns_from n m) ≡ Some cause →
    turns_from (n + k) m ≡ turns_from n m
