-- What `freeze` returns, each status with its cause.
use Rattle.std.specs.Prelude.{ℕ, ◌≡◌, ◌≢◌, ◌≤◌, ◌⊎◌, true, false, List, ◌++◌, length, take, Option, Some, None, Ok}
use Rattle.sha2.specs.Sha256.{sha256}
use Rattle.io_traits.specs.Told.{Tells, Grows, OtherFiles, SameFiles}
use Rattle.cloak_model.specs.Beginning.{Fresh}
use Rattle.cloak_model.specs.Exchange.{recorded_bytes, shown_bytes}
use Rattle.cloak_model.specs.Run.{Run, due, joint_run}
use Rattle.command_words.specs.Command as spec
use Rattle.frozen_run.specs.Shapes.{HasShape}
use Rattle.frozen_state.specs.declared.frozen.Frozen.{Frozen}
use Rattle.frozen_state.specs.Continuing.{first_pieces}
use Rattle.frozen_state.specs.FrozenState.{frozen_bytes, frozen_of}
use Rattle.frozen_state.specs.Ranges.{IsInRange}
use Rattle.frozen_state.specs.Thawing.{CanGoOn}
use Rattle.command_parts.specs.declared.status.Status.{Status}
use Rattle.command_parts.specs.declared.status.Status.TheVariants as status
use Rattle.command_parts.specs.Freezing.{AsksFrozen, FreezeSources}
use Rattle.command_parts.specs.NoRun.{IsRefused, LineFailed}
use Rattle.command_parts.specs.Outside.{FilesOutside, NothingRose, Outside, Raised}
use Rattle.run_command.specs.Answering.{IsLawful}
use Rattle.run_command.specs.Recording.{FailedSome, GrowsSome}
use Rattle.run_command.specs.Running.{IsStatusOfStop, run_status}
use Rattle.cloak_model.specs.Run.{NoClashYet}
use Rattle.frozen_commands.specs.declared.freezing.PreparedFreeze.{PreparedFreeze}
use Rattle.frozen_commands.specs.Freezing.{PreparesFrozen, due_frozen, is_stopped, last_joint}
use Rattle.frozen_commands.specs.Saving.{lacking_line}
use Rattle.frozen_commands.specs.Writing.{BeginsNoRecord, HasWritten, IsCutOff}
use Rattle.command_parts.specs.Files.{TellsFront}
use Rattle.vector_law.specs.Vectors.{ShowsNoKey}

-- What becomes of a run.

-- The state after its steps, under the vectors. It is in range, and its machine can go on: of it there is a run that goes on.
-- None of the vectors that it shows is a key by its place.
pub record IsState (s : FreezeSources) (steps : ℕ) (r : Run) (f : Frozen) : Type 0 where
  pub is : frozen_of (last_joint r) steps s.vectors ≡ Some f
  pub shape : HasShape f
  pub few : length f.recorded ≤ 65536
  pub in_range : IsInRange s.bundle.kernel (length s.bundle.programs) f
  pub can_go_on : CanGoOn s.bundle s.stream f (last_joint r)
  pub no_key : ShowsNoKey s.bundle.programs s.stream s.vectors f

-- No step stopped it. What is due of its first part was written, and the file of its state.
pub record IsSaved {S O : Type 0} (names : spec.FreezeNames) (steps : ℕ) (s : FreezeSources) (r : Run)
    (before after : Outside S O) : Type 0 where
  pub reached : is_stopped r ≡ false
  pub written : HasWritten (first_pieces r.opened r.turns) names.record_name before after
  pub state : Frozen
  pub is_state : IsState s steps r state
  pub file : Tells (after.files.held names.state_name) (frozen_bytes state (sha256 s.bytes))

-- A step stopped it. All that is due of it was written, and this is its status.
pub record HasStopped {S O : Type 0} (names : spec.FreezeNames) (r : Run) (given : Status) (before after : Outside S O) :
    Type 0 where
  pub stopped : is_stopped r ≡ true
  pub status : given ≡ run_status r
  pub written : HasWritten (due r) names.record_name before after

-- No step stopped it, and the vectors are too few for its state. What is due of its first part was written, and the line.
pub record LacksVectors {S O : Type 0} (names : spec.FreezeNames) (steps : ℕ) (s : FreezeSources) (r : Run)
    (before after : Outside S O) : Type 0 where
  pub reached : is_stopped r ≡ false
  pub too_few : frozen_of (last_joint r) steps s.vectors ≡ None
  pub file : Tells (after.files.held names.record_name) (recorded_bytes (first_pieces r.opened r.turns))
  pub output : Grows before.output.taken after.output.taken (shown_bytes (first_pieces r.opened r.turns) ++ lacking_line)

-- Writing broke off.

-- in what is due of the run
pub record BreaksOffInRun {S O : Type 0} (names : spec.FreezeNames) (r : Run) (before after : Outside S O) : Type 0 where
  pub cut_off : IsCutOff (due_frozen r) names.record_name before after
  pub others : OtherFiles names.record_name before.files.held after.files.held

-- in the state: it has the bytes that it had, or a front of those that are due
pub record BreaksOffInState {S O : Type 0} (names : spec.FreezeNames) (steps : ℕ) (s : FreezeSources) (r : Run)
    (before after : Outside S O) : Type 0 where
  pub reached : is_stopped r ≡ false
  pub written : HasWritten (first_pieces r.opened r.turns) names.record_name before after
  pub state : Frozen
  pub is_state : IsState s steps r state
  pub file : (after.files.held names.state_name ≡ before.files.held names.state_name)
      ⊎ TellsFront (after.files.held names.state_name) (frozen_bytes state (sha256 s.bytes))
  pub writing : Raised before.files.writing after.files.writing
  pub faults : after.output.faults ≡ before.output.faults

-- in the line that the vectors are too few
pub record BreaksOffInLine {S O : Type 0} (names : spec.FreezeNames) (steps : ℕ) (s : FreezeSources) (r : Run)
    (before after : Outside S O) : Type 0 where
  pub reached : is_stopped r ≡ false
  pub too_few : frozen_of (last_joint r) steps s.vectors ≡ None
  pub file : Tells (after.files.held names.record_name) (recorded_bytes (first_pieces r.opened r.turns))
  pub bytes : ℕ
  pub few : bytes ≤ length lacking_line
  pub output : Grows before.output.taken after.output.taken
      (shown_bytes (first_pieces r.opened r.turns) ++ take bytes lacking_line)
  pub others : OtherFiles names.record_name before.files.held after.files.held
  pub writing : after.files.writing ≡ before.files.writing
  pub faults : Raised before.output.faults after.output.faults

abbrev pub BreaksOff : {S O : Type 0} → spec.FreezeNames → ℕ → FreezeSources → Run → Outside S O → Outside S O → Type 0
BreaksOff names steps s r before after =
    BreaksOffInRun names r before after
    ⊎ (BreaksOffInState names steps s r before after ⊎ BreaksOffInLine names steps s r before after)

-- The answers.

-- If no two different pages that were compared in the steps of this run had one digest.
abbrev pub IfNoneClashed : Run → Type 0 → Type 0
IfNoneClashed r Becomes = NoClashYet (last_joint r) → Becomes

-- The words ask for this run, which is lawful, and this became of it.
pub record Freezes {S O : Type 0} (asked : spec.Asked) (before after : Outside S O)
    (Becomes : spec.FreezeNames → ℕ → FreezeSources → Run → Type 0) : Type 0 where
  pub names : spec.FreezeNames
  pub steps : ℕ
  pub randomness : spec.Randomness
  pub freeze : asked ≡ spec.Freeze names steps randomness
  pub sources : FreezeSources
  pub asks : AsksFrozen names randomness before.files.held sources
  pub made : Run
  pub joint : joint_run sources.bundle sources.stream steps ≡ Ok made
  pub lawful : IsLawful sources.bundle (Fresh sources.stream) made
  pub becomes : Becomes names steps sources made

-- It was frozen, and no call failed.
pub record HasFrozen {S O : Type 0} (asked : spec.Asked) (before after : Outside S O) : Type 0 where
  pub freezes : Freezes asked before after
      (λ names steps s r. IfNoneClashed r (IsSaved names steps s r before after))
  pub grows : GrowsSome before.output.taken after.output.taken
  pub nothing_rose : NothingRose before after

-- A step stopped it, and no call failed.
pub record HasEnded {S O : Type 0} (asked : spec.Asked) (given : Status) (before after : Outside S O) : Type 0 where
  pub freezes : Freezes asked before after
      (λ names steps s r. IfNoneClashed r (HasStopped names r given before after))
  pub some_stop : IsStatusOfStop given
  pub grows : GrowsSome before.output.taken after.output.taken
  pub nothing_rose : NothingRose before after

-- The vectors are too few, and no call failed.
pub record HasLacked {S O : Type 0} (asked : spec.Asked) (before after : Outside S O) : Type 0 where
  pub freezes : Freezes asked before after
      (λ names steps s r. IfNoneClashed r (LacksVectors names steps s r before after))
  pub grows : GrowsSome before.output.taken after.output.taken
  pub nothing_rose : NothingRose before after

-- Writing broke off: the record could not be begun, or this became of the run.
pub record FreezingBrokeOff {S O : Type 0} (asked : spec.Asked) (before after : Outside S O) : Type 0 where
  pub freezes : Freezes asked before after
      (λ names steps s r. BeginsNoRecord names.record_name before after
      ⊎ IfNoneClashed r (BreaksOff names steps s r before after))
  pub grows : GrowsSome before.output.taken after.output.taken
  pub reading : after.files.reading ≡ before.files.reading
  pub fault : FailedSome Raised before after

-- What each status says. The causes exclude each other; only want of memory may be returned instead of another, before
-- anything is written.
abbrev pub FreezeAnswers : {S O : Type 0} → spec.Asked → Outside S O → Outside S O → Status → Type 0
FreezeAnswers asked before after status.Done = HasEnded asked status.Done before after
FreezeAnswers asked before after status.Violation = HasEnded asked status.Violation before after
FreezeAnswers asked before after status.Usage = IsRefused asked status.Usage before after
FreezeAnswers asked before after status.BadBundle = IsRefused asked status.BadBundle before after
FreezeAnswers asked before after status.ReadFault = IsRefused asked status.ReadFault before after
FreezeAnswers asked before after status.WriteFault = LineFailed asked before after ⊎ FreezingBrokeOff asked before after
FreezeAnswers asked before after status.NoMemory = IsRefused asked status.NoMemory before after
FreezeAnswers asked before after status.NoRandom =
    IsRefused asked status.NoRandom before after
    ⊎ (HasEnded asked status.NoRandom before after ⊎ HasLacked asked before after)
FreezeAnswers asked before after status.BadRecord = ⊥
FreezeAnswers asked before after status.BadStore = IsRefused asked status.BadStore before after
FreezeAnswers asked before after status.Frozen = HasFrozen asked before after
FreezeAnswers asked before after status.BadState = IsRefused asked status.BadState before after

-- no other file than these two has other bytes
abbrev pub OtherThanFrozen : spec.FreezeNames → (List ℕ → Option (List ℕ)) → (List ℕ → Option (List ℕ)) → Type 0
OtherThanFrozen names held held' =
    (other : List ℕ) → other ≢ names.record_name → other ≢ names.state_name → held' other ≡ held other

-- Every file keeps its bytes, save the record of a run that was begun, or might have been, and the state, which is begun
-- only if the run is frozen.
abbrev pub KeepsFrozenFiles : spec.FreezeNames → Status → (List ℕ → Option (List ℕ)) → (List ℕ → Option (List ℕ)) → Type 0
KeepsFrozenFiles names status.Done held held' = OtherFiles names.record_name held held'
KeepsFrozenFiles names status.Violation held held' = OtherFiles names.record_name held held'
KeepsFrozenFiles names status.NoRandom held held' = OtherFiles names.record_name held held'
KeepsFrozenFiles names status.Frozen held held' = OtherThanFrozen names held held'
KeepsFrozenFiles names status.WriteFault held held' = OtherThanFrozen names held held'
KeepsFrozenFiles names answer held held' = SameFiles held held'

-- What making a run that was prepared returns, seen from before its files were read.
abbrev pub FreezesPrepared : {S O : Type 0} → spec.FreezeNames → (steps : ℕ) → spec.Randomness → PreparedFreeze →
    Outside S O → Outside S O → Status → Type 0
FreezesPrepared {S} {O} names steps randomness prepared now after given =
    (before : FilesOutside S) → PreparesFrozen names steps randomness before now.files (Ok prepared) →
    let first : Outside S O = record { files = before; output = now.output } in
    FreezeAnswers (spec.Freeze names steps randomness) first after given
    × KeepsFrozenFiles names given before.held after.files.held
