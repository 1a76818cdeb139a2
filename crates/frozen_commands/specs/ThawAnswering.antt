-- What `thaw` returns, each status with its cause.
use Rattle.std.specs.Prelude.{ℕ, ◌≡◌, ◌≤◌, ◌+◌, ◌⊎◌, List, Option, Some, Ok}
use Rattle.io_traits.specs.Told.{OtherFiles, SameFiles}
use Rattle.cloak_base.specs.Random.{Random}
use Rattle.cloak_model.specs.Ledger.{Keys}
use Rattle.cloak_model.specs.Parts.{Joint}
use Rattle.cloak_model.specs.Run.{Run, most_steps}
use Rattle.command_words.specs.Command as spec
use Rattle.frozen_state.specs.Continuing.{due_after, run_on}
use Rattle.frozen_state.specs.Thawing.{CanGoOn, keys_and_rest}
use Rattle.joint_machine.specs.Thawing.{IsThawable}
use Rattle.command_parts.specs.declared.status.Status.{Status}
use Rattle.command_parts.specs.declared.status.Status.TheVariants as status
use Rattle.command_parts.specs.NoRun.{IsRefused, LineFailed}
use Rattle.command_parts.specs.Outside.{FilesOutside, NothingRose, Outside, Raised}
use Rattle.command_parts.specs.Thawing.{AsksThawed, ThawSources}
use Rattle.run_command.specs.Recording.{FailedSome, GrowsSome}
use Rattle.run_command.specs.Running.{IsStatusOfStop, run_status}
use Rattle.cloak_model.specs.Run.{NoClash}
use Rattle.cloak_machine.specs.declared.machine.Machine.{Machine}
use Rattle.frozen_commands.specs.Thawing.{PreparesThawed}
use Rattle.frozen_commands.specs.WholeRun.{OfEachWhole}
use Rattle.frozen_commands.specs.Writing.{BeginsNoRecord, HasWritten, IsCutOff}

-- What becomes of the rest of a run after this many steps.

-- All that is due of it was written, and this is its status.
pub record IsWrittenAfter {S O : Type 0} (steps : ℕ) (r : Run) (name : List ℕ) (given : Status) (before after : Outside S O) :
    Type 0 where
  pub status : given ≡ run_status r
  pub written : HasWritten (due_after steps r) name before after

-- Writing broke off in it.
abbrev pub IsCutOffAfter : {S O : Type 0} → ℕ → Run → List ℕ → Outside S O → Outside S O → Type 0
IsCutOffAfter steps r name before after = IsCutOff (due_after steps r) name before after

-- The answers.

-- The state passes every test: keys and draws are there, each page has its digest, and each domain has a program.
pub record PassesTests (s : ThawSources) : Type 0 where
  pub keys : Keys
  pub rest : Random
  pub drawn : keys_and_rest s.bundle s.state.draws s.stream ≡ Some (keys, rest)
  pub thawable : IsThawable keys s.state

-- The words ask for the rest of a run, from a state that passes every test. Each whole run that had this state is lawful,
-- and is its first steps and then this rest.
pub record Thaws {S O : Type 0} (asked : spec.Asked) (before after : Outside S O)
    (Becomes : spec.ThawNames → ℕ → ThawSources → Type 0) : Type 0 where
  pub names : spec.ThawNames
  pub steps : ℕ
  pub randomness : spec.Randomness
  pub thaw : asked ≡ spec.Thaw names steps randomness
  pub sources : ThawSources
  pub asks : AsksThawed names randomness before.files.held sources
  pub few : sources.state.steps + steps ≤ most_steps
  pub passes : PassesTests sources
  pub whole : OfEachWhole sources steps
  pub becomes : Becomes names steps sources

-- Of each machine with this state that can go on, if no two different pages that are compared in its rest have one digest,
-- this became of its rest.
abbrev pub OfEachRest : ThawSources → ℕ → (Run → Type 0) → Type 0
OfEachRest s steps Becomes =
    (j : Joint) → CanGoOn s.bundle s.stream s.state j → NoClash (run_on s.bundle s.state.steps j steps) →
    Becomes (run_on s.bundle s.state.steps j steps)

-- The rest was made, and no call failed.
pub record HasThawed {S O : Type 0} (asked : spec.Asked) (given : Status) (before after : Outside S O) : Type 0 where
  pub thaws : Thaws asked before after
      (λ names steps s. OfEachRest s steps (λ r. IsWrittenAfter s.state.steps r names.record_name given before after)
      × OtherFiles names.record_name before.files.held after.files.held)
  pub some_stop : IsStatusOfStop given
  pub grows : GrowsSome before.output.taken after.output.taken
  pub nothing_rose : NothingRose before after

-- Writing broke off: the record could not be begun, or this became of the rest.
pub record ThawingBrokeOff {S O : Type 0} (asked : spec.Asked) (before after : Outside S O) : Type 0 where
  pub thaws : Thaws asked before after
      (λ names steps s. (BeginsNoRecord names.record_name before after
      ⊎ OfEachRest s steps (λ r. IsCutOffAfter s.state.steps r names.record_name before after))
      × OtherFiles names.record_name before.files.held after.files.held)
  pub grows : GrowsSome before.output.taken after.output.taken
  pub reading : after.files.reading ≡ before.files.reading
  pub fault : FailedSome Raised before after

-- What each status says. The causes exclude each other; only want of memory may be returned instead of another, before
-- anything is written.
abbrev pub ThawAnswers : {S O : Type 0} → spec.Asked → Outside S O → Outside S O → Status → Type 0
ThawAnswers asked before after status.Done = HasThawed asked status.Done before after
ThawAnswers asked before after status.Violation = HasThawed asked status.Violation before after
ThawAnswers asked before after status.Usage = IsRefused asked status.Usage before after
ThawAnswers asked before after status.BadBundle = IsRefused asked status.BadBundle before after
ThawAnswers asked before after status.ReadFault = IsRefused asked status.ReadFault before after
ThawAnswers asked before after status.WriteFault = LineFailed asked before after ⊎ ThawingBrokeOff asked before after
ThawAnswers asked before after status.NoMemory = IsRefused asked status.NoMemory before after
ThawAnswers asked before after status.NoRandom =
    IsRefused asked status.NoRandom before after ⊎ HasThawed asked status.NoRandom before after
ThawAnswers asked before after status.BadRecord = ⊥
ThawAnswers asked before after status.BadStore = IsRefused asked status.BadStore before after
ThawAnswers asked before after status.Frozen = ⊥
ThawAnswers asked before after status.BadState = IsRefused asked status.BadState before after

-- Every file keeps its bytes, save the record of a run that was begun, or might have been.
abbrev pub KeepsThawedFiles : spec.ThawNames → Status → (List ℕ → Option (List ℕ)) → (List ℕ → Option (List ℕ)) → Type 0
KeepsThawedFiles names status.Done held held' = OtherFiles names.record_name held held'
KeepsThawedFiles names status.Violation held held' = OtherFiles names.record_name held held'
KeepsThawedFiles names status.WriteFault held held' = OtherFiles names.record_name held held'
KeepsThawedFiles names status.NoRandom held held' = OtherFiles names.record_name held held'
KeepsThawedFiles names answer held held' = SameFiles held held'

-- What making the rest of a run returns, seen from before its files were read.
abbrev pub ThawsPrepared : {S O : Type 0} → spec.ThawNames → (steps : ℕ) → spec.Randomness → Machine →
    Outside S O → Outside S O → Status → Type 0
ThawsPrepared {S} {O} names steps randomness machine now after given =
    (before : FilesOutside S) → PreparesThawed names steps randomness before now.files (Ok machine) →
    let first : Outside S O = record { files = before; output = now.output } in
    ThawAnswers (spec.Thaw names steps randomness) first after given
    × KeepsThawedFiles names given before.held after.files.held
