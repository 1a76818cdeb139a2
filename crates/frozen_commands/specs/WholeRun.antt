-- The whole run of which `thaw` makes the rest.
use Rattle.std.specs.Prelude.{ℕ, ◌≡◌, ◌+◌, Ok}
use Rattle.cloak_model.specs.declared.image.Bundle.{Bundle}
use Rattle.cloak_model.specs.Beginning.{Fresh}
use Rattle.cloak_model.specs.Parts.{Joint}
use Rattle.cloak_model.specs.Run.{Run, joint_after, joint_run}
use Rattle.command_parts.specs.Thawing.{ThawSources}
use Rattle.frozen_state.specs.Continuing.{IsFrozenAfter, first_turns, run_on}
use Rattle.frozen_state.specs.Thawing.{CanGoOn}
use Rattle.run_command.specs.Answering.{IsLawful}
use Rattle.thaw_law.specs.FreezeThaw.{IsFirstAndRest}

-- The two parts of a run.

-- the machine after the first n steps
abbrev pub joint_between : Bundle → ℕ → Run → Joint
joint_between b n r = joint_after r.opened.joint (first_turns b r.opened n)

-- the rest: at most k steps from that machine on, and the end
abbrev pub rest_of : Bundle → ℕ → ℕ → Run → Run
rest_of b n k r = run_on b n (joint_between b n r) k

-- The run is its first n steps, and then this rest of at most k.
abbrev pub IsInTwoParts : Bundle → ℕ → ℕ → Run → Type 0
IsInTwoParts b n k r =
    IsFirstAndRest r.opened n (first_turns b r.opened n) (joint_between b n r) (rest_of b n k r) r

-- The run that goes on.

-- It is the run of the image under the stream over the steps of the state and this many more. No step of the first part
-- stopped it, and the state is one of its machine after them, which can go on.
pub record HadState (s : ThawSources) (steps : ℕ) (whole : Run) : Type 0 where
  pub joint : joint_run s.bundle s.stream (s.state.steps + steps) ≡ Ok whole
  pub reached : IsFrozenAfter s.bundle whole.opened s.state.steps
  pub state : CanGoOn s.bundle s.stream s.state (joint_between s.bundle s.state.steps whole)

-- Its laws are those of every run, in its first part and in its rest.
pub record IsWholeRun (s : ThawSources) (steps : ℕ) (whole : Run) : Type 0 where
  pub lawful : IsLawful s.bundle (Fresh s.stream) whole
  pub parts : IsInTwoParts s.bundle s.state.steps steps whole

abbrev pub OfEachWhole : ThawSources → ℕ → Type 0
OfEachWhole s steps = (whole : Run) → HadState s steps whole → IsWholeRun s steps whole
