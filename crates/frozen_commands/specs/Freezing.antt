-- A run that is frozen after its steps, unless one of them stops it.
use Rattle.std.specs.Prelude.{ℕ, ◌≡◌, ◌<◌, true, false, is_some, Bool, List, ◌++◌, codes, length, map, Option, Some, None, Result, Ok, Err}
use Rattle.sha2.specs.Sha256.{sha256}
use Rattle.cloak_model.specs.declared.image.Bundle.{Bundle}
use Rattle.cloak_model.specs.Exchange.{Piece, Emits}
use Rattle.cloak_model.specs.Opening.{RunEdge, opening}
use Rattle.cloak_model.specs.Parts.{Joint}
use Rattle.cloak_model.specs.Run.{Run, due, first_moment, joint_after, last_stop}
use Rattle.cloak_machine.specs.Standing.{StandsForMoment, placings_of}
use Rattle.cloak_machine.specs.declared.machine.Machine.{Machine}
use Rattle.command_words.specs.Command as spec
use Rattle.frozen_state.specs.Continuing.{first_pieces}
use Rattle.frozen_state.specs.Room.{IsRoomFor}
use Rattle.range_law.specs.Writing.{IsOfBytes, IsStreamOfBytes}
use Rattle.joint_machine.specs.Placings.{placing}
use Rattle.command_parts.specs.declared.refusal.Refusal.{Refusal}
use Rattle.command_parts.specs.declared.status.Status.{Status}
use Rattle.command_parts.specs.Freezing.{AsksFrozen, FreezeSources}
use Rattle.command_parts.specs.NoRun.{NoRun}
use Rattle.command_parts.specs.Outside.{FilesOutside, OnlyRead, Outside}
use Rattle.run_command.specs.Outlet.{Writes}
use Rattle.run_command.specs.Running.{IsStatusOfStop, run_status}
use Rattle.frozen_commands.specs.declared.first.First.{First}
use Rattle.frozen_commands.specs.declared.first.First.TheVariants as first
use Rattle.frozen_commands.specs.declared.freezing.ForSaving.{ForSaving}
use Rattle.frozen_commands.specs.declared.freezing.PreparedFreeze.{PreparedFreeze}
use Rattle.record_law.specs.Steps.{moment_after}

-- What is due.

-- the machine after the steps of a run, before it is closed
abbrev pub last_joint : Run → Joint
last_joint r = joint_after r.opened.joint r.turns

-- whether one of its steps stopped it
abbrev pub is_stopped : Run → Bool
is_stopped r = is_some (last_stop None r.turns)

-- of a run that a step stopped, all; and otherwise its first bytes, its opening and its steps
abbrev pub due_if : Bool → Run → List Piece
due_if true r = due r
due_if false r = first_pieces r.opened r.turns

abbrev pub due_frozen : Run → List Piece
due_frozen r = due_if (is_stopped r) r

-- The machine.

-- what is needed once the steps were made: the digest of the image's file, the vectors, and room for the state
pub record IsForSaving (s : FreezeSources) (left : ForSaving) : Type 0 where
  pub digest : left.digest ≡ sha256 s.bytes
  pub vectors : left.vectors ≡ s.vectors
  pub room : IsRoomFor s.bundle.kernel (length s.bundle.programs) left.room

-- The words ask for a run from these sources; it opens so, and the machine is that of its first moment. Image and stream are
-- of bytes.
pub record IsPrepared (names : spec.FreezeNames) (randomness : spec.Randomness) (held : List ℕ → Option (List ℕ))
    (prepared : PreparedFreeze) : Type 0 where
  pub sources : FreezeSources
  pub asks : AsksFrozen names randomness held sources
  pub opened : RunEdge
  pub opens : opening sources.bundle sources.stream ≡ Ok opened
  pub stands : StandsForMoment prepared.machine (first_moment sources.bundle opened.joint)
  pub placings : placings_of prepared.machine ≡ map placing sources.bundle.programs
  pub left : IsForSaving sources prepared.left
  pub image_bytes : IsOfBytes sources.bundle
  pub stream_bytes : IsStreamOfBytes sources.stream

-- a run that can begin, or why there is none; the files were at most read
abbrev pub PreparesFrozen : {S : Type 0} → spec.FreezeNames → ℕ → spec.Randomness → FilesOutside S → FilesOutside S →
    Result PreparedFreeze Refusal → Type 0
PreparesFrozen names steps randomness before after (Ok prepared) =
    OnlyRead before after × IsPrepared names randomness before.held prepared
PreparesFrozen names steps randomness before after (Err refused) =
    NoRun (spec.Freeze names steps randomness) refused before after

-- The steps.

abbrev pub is_failed : First → Bool
is_failed (first.Reached machine) = false
is_failed (first.Ended given) = false
is_failed first.Failed = true

-- the answer, if a step stopped the run, is one of some run
abbrev pub EndsAsSome : First → Type 0
EndsAsSome (first.Ended given) = IsStatusOfStop given
EndsAsSome other = Unit {0}

-- how the steps of a run ended: the machine stands after them, or this is the run's status
abbrev pub IsFirstOf : Bundle → Run → First → Type 0
IsFirstOf b r (first.Reached machine) =
    (is_stopped r ≡ false) × StandsForMoment machine (moment_after (first_moment b r.opened.joint) r.turns)
IsFirstOf b r (first.Ended given) = (is_stopped r ≡ true) × (given ≡ run_status r)
IsFirstOf b r first.Failed = Unit {0}

-- what is due of a run was given, and its steps ended so
pub record WritesFirst {E : Type 0} (gave : E → E → List Piece → Type 0) (e e' : E) (given : First) (b : Bundle) (r : Run) :
    Type 0 where
  pub emits : Emits gave e e' (due_frozen r)
  pub ended : IsFirstOf b r given

-- some pieces were written, or a front of them if writing failed
abbrev pub WritesSome : {S O : Type 0} → List ℕ → First → Outside S O → Outside S O → Type 0
WritesSome name given before after = (pieces : List Piece) × Writes (is_failed given) name before after pieces

-- what is due of a run was written, or a front of it if writing failed
pub record RecordsFirst {S O : Type 0} (name : List ℕ) (before after : Outside S O) (given : First) (b : Bundle)
    (r : Run) : Type 0 where
  pub writes : Writes (is_failed given) name before after (due_frozen r)
  pub ended : IsFirstOf b r given
