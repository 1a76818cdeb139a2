-- Two commands that make one run: `freeze` makes its first steps, and `thaw` its rest.
use Rattle.std.specs.Prelude.{ℕ, ◌≡◌, ◌+◌, List, ◌++◌, length, Option, Some, Ok}
use Rattle.sha2.specs.Sha256.{sha256}
use Rattle.cloak_base.specs.Random.{Random}
use Rattle.cloak_model.specs.declared.image.Bundle.{Bundle}
use Rattle.cloak_model.specs.Beginning.{Fresh}
use Rattle.cloak_model.specs.Bundle.{IsBundleIn}
use Rattle.cloak_model.specs.Exchange.{Piece, recorded_bytes, shown_bytes}
use Rattle.cloak_model.specs.Run.{Run, due, joint_run, record_bytes, report_of}
use Rattle.command_words.specs.Command as spec
use Rattle.frozen_commands.specs.FreezeAnswering.{HasFrozen}
use Rattle.frozen_commands.specs.ThawAnswering.{HasThawed}
use Rattle.frozen_commands.specs.WholeRun.{joint_between, rest_of}
use Rattle.frozen_state.specs.declared.frozen.Frozen.{Frozen}
use Rattle.frozen_state.specs.Continuing.{IsFrozenAfter, due_after, first_pieces, first_turns, pieces_after, report_after}
use Rattle.frozen_state.specs.FrozenState.{frozen_bytes}
use Rattle.frozen_state.specs.Thawing.{CanGoOn}
use Rattle.io_traits.specs.Told.{Grows, Tells}
use Rattle.command_parts.specs.declared.status.Status.{Status}
use Rattle.command_parts.specs.Outside.{Outside}
use Rattle.command_parts.specs.Streams.{IsToldStream}
use Rattle.run_command.specs.Answering.{IsLawful}
use Rattle.run_command.specs.Running.{run_status}
use Rattle.cloak_model.specs.Run.{NoClash}
use Rattle.thaw_law.specs.FreezeThaw.{AreAlike, with_closed_past}

-- The commands.

-- The words of two commands: this many steps, and then up to that many more.
pub record TwoCommands : Type 0 where
  pub freeze : spec.FreezeNames
  pub first_steps : ℕ
  pub first_randomness : spec.Randomness
  pub thaw : spec.ThawNames
  pub rest_steps : ℕ
  pub rest_randomness : spec.Randomness

-- Both read this image and this random stream, and the second one reads the state that the first one wrote. Between
-- them anything may have been done to other files.
pub record ShareFiles (w : TwoCommands) (version : ℕ) (b : Bundle) (stream : Random)
    (before mid later : List ℕ → Option (List ℕ)) : Type 0 where
  pub image : List ℕ
  pub is_image : IsBundleIn version image b
  pub first_image : before w.freeze.bundle ≡ Some image
  pub rest_image : later w.thaw.bundle ≡ Some image
  pub first_stream : IsToldStream before w.first_randomness stream
  pub rest_stream : IsToldStream later w.rest_randomness stream
  pub state : List ℕ
  pub state_written : mid w.freeze.state_name ≡ Some state
  pub state_read : later w.thaw.state_name ≡ Some state

-- The first one froze the run, and the second one made its rest.
pub record BothRan {S O : Type 0} (w : TwoCommands) (before mid later after : Outside S O) (given : Status) : Type 0 where
  pub frozen : HasFrozen (spec.Freeze w.freeze w.first_steps w.first_randomness) before mid
  pub thawed : HasThawed (spec.Thaw w.thaw w.rest_steps w.rest_randomness) given later after

-- The run.

-- The rest of the run: from the machine after its first steps, by the image alone.
abbrev pub rest_made : TwoCommands → Bundle → Run → Run
rest_made w b r = rest_of b w.first_steps w.rest_steps r

-- what is due of the first steps
abbrev pub first_due : TwoCommands → Bundle → Run → List Piece
first_due w b r = first_pieces r.opened (first_turns b r.opened w.first_steps)

-- and of the rest, up to its report
abbrev pub rest_due : TwoCommands → Bundle → Run → List Piece
rest_due w b r = pieces_after w.first_steps (rest_made w b r)

-- The state that the first one wrote is of the machine after the first steps, of which none stopped the run: under the
-- stream this machine can go on.
pub record IsBetween {S O : Type 0} (w : TwoCommands) (image : List ℕ) (b : Bundle) (stream : Random) (mid : Outside S O)
    (r : Run) : Type 0 where
  pub reached : IsFrozenAfter b r.opened w.first_steps
  pub state : Frozen
  pub file : Tells (mid.files.held w.freeze.state_name) (frozen_bytes state (sha256 image))
  pub can_go_on : CanGoOn b stream state (joint_between b w.first_steps r)

-- The record of the run is what both wrote. What is shown of it is what both showed, up to the report. That of the
-- second one has the same lines, except that console and loads are counted from where it went on: put before its own,
-- console and loads of the first steps make it the report of the run.
pub record IsOneRun {S O : Type 0} (w : TwoCommands) (image : List ℕ) (b : Bundle) (stream : Random)
    (before mid later after : Outside S O) (given : Status) (r : Run) : Type 0 where
  pub lawful : IsLawful b (Fresh stream) r
  pub between : IsBetween w image b stream mid r
  pub first_file : Tells (mid.files.held w.freeze.record_name) (recorded_bytes (first_due w b r))
  pub rest_file : Tells (after.files.held w.thaw.record_name) (recorded_bytes (due_after w.first_steps (rest_made w b r)))
  pub records : recorded_bytes (first_due w b r) ++ recorded_bytes (due_after w.first_steps (rest_made w b r))
      ≡ record_bytes r
  pub first_output : Grows before.output.taken mid.output.taken (shown_bytes (first_due w b r))
  pub rest_output : Grows later.output.taken after.output.taken
      (shown_bytes (rest_due w b r) ++ report_after w.first_steps (rest_made w b r))
  pub shown : shown_bytes (first_due w b r) ++ (shown_bytes (rest_due w b r) ++ report_of r) ≡ shown_bytes (due r)
  pub report : report_of r
      ≡ report_after w.first_steps (with_closed_past (joint_between b w.first_steps r) (rest_made w b r))
  pub reports : AreAlike r.stop (rest_made w b r).stop (length r.turns)
      (w.first_steps + length (rest_made w b r).turns) r.closed.joint (rest_made w b r).closed.joint
  pub status : given ≡ run_status r

-- The law.
abbrev pub PartsAreOneRun : (S O : Type 0) → Type 0
PartsAreOneRun S O =
    (w : TwoCommands) (version : ℕ) (b : Bundle) (stream : Random) (before mid later after : Outside S O) (given : Status)
    (share : ShareFiles w version b stream before.files.held mid.files.held later.files.held) →
    BothRan w before mid later after given →
    (r : Run) → joint_run b stream (w.first_steps + w.rest_steps) ≡ Ok r → NoClash r →
    IsOneRun w share.image b stream before mid later after given r
