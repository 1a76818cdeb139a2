-- What a run returns, each status with its cause.
use Rattle.std.specs.Prelude.{ℕ, ◌≡◌, ◌⊎◌, List, [], Option, Some, None, Ok}
use Rattle.cloak_base.specs.Random.{Random}
use Rattle.io_traits.specs.Told.{Tells, SameFiles, OtherFiles}
use Rattle.cloak_model.specs.declared.image.Bundle.{Bundle}
use Rattle.cloak_model.specs.Beginning.{Beginning, Fresh}
use Rattle.cloak_model.specs.Cloaking.{owed_in}
use Rattle.cloak_model.specs.Run.{Run, joint_run}
use Rattle.cause_law.specs.Closing.{closed_memory}
use Rattle.latest_store.specs.LatestStore.{GivesLatest}
use Rattle.latest_store.specs.Sums.{AddsUp}
use Rattle.load_law.specs.Outcomes.{EndsDueLoads}
use Rattle.reservation_law.specs.Reservations.{StoresOnlyReserved}
use Rattle.context_law.specs.Inside.{EndsConditionals, StoresOnlyReservedInside}
use Rattle.context_law.specs.Registers.{OthersKeepRegisters, StepsHaveRegisters}
use Rattle.page_law.specs.Ciphers.{HaveOwnDraws, ShowsPages}
use Rattle.page_law.specs.Keys.{HaveOwnKeys}
use Rattle.kernel_isolation.specs.Isolation.{joint_until}
use Rattle.command_words.specs.Command as spec
use Rattle.command_parts.specs.declared.status.Status.{Status}
use Rattle.command_parts.specs.declared.status.Status.TheVariants as status
use Rattle.command_parts.specs.NoRun.{AsksBundle, IsRefused, LineFailed}
use Rattle.command_parts.specs.Outside.{Outside, Raised, NothingRose}
use Rattle.run_command.specs.Refusing.{RefusesRightly}
use Rattle.run_command.specs.Recording.{IsWritten, IsCutOff, GrowsSome, FailedSome}
use Rattle.run_command.specs.Isolated.{IsIsolated}
use Rattle.run_command.specs.ReadingBack.{ReadsBack}
use Rattle.cloak_model.specs.Run.{NoClash}

-- The words ask for this joint run.
pub record AsksRun (asked : spec.Asked) (held : List ℕ → Option (List ℕ)) (record_name : List ℕ) (r : Run) : Type 0
  where
    pub steps : ℕ
    pub bundle : Bundle
    pub stream : Random
    pub asks : AsksBundle asked held (Some record_name) steps bundle stream
    pub joint : joint_run bundle stream steps ≡ Ok r

-- The run.

-- What is true of a run, however it begins and whatever its kernel does: its record reads back; after each step the
-- kernel, and each program, is what it is alone on its own half; its programs' loads return what was stored last; a load
-- that is due is completed, or faults to the kernel, or ends its domain, or stops the run; additions to a word of a
-- program by atomic instructions add up; SC stores only a word that was not written since its LR, and that of a program
-- that reached its word writes 0 to its register if it stored it, and 1 if it did nothing; after each step that a context
-- made its registers are what its instruction says, of which that of a completed load has the value, extended, and no
-- other step changes them, but for the answer of a call that it waits for; the kernel is shown pages as ciphertexts alone,
-- each under its program's key and a draw of its own, and at no moment is a page to be sealed under another key; a domain
-- ended only if the kernel's side presented something other than what is recorded, and all that it presented in this way
-- was refused; and as the run was closed, no frame was owed a page any more.
pub record IsLawful (b : Bundle) (from : Beginning) (r : Run) : Type 0 where
  pub reads_back : ReadsBack b from r
  pub isolated : IsIsolated b from r
  pub latest : GivesLatest b from r
  pub loads : EndsDueLoads b from r
  pub sums : AddsUp b from r
  pub conditionals : StoresOnlyReserved b r
  pub inside : StoresOnlyReservedInside b from r
  pub attempts : EndsConditionals b from r
  pub registers : StepsHaveRegisters b from r
  pub kept_registers : OthersKeepRegisters b r
  pub ciphers : ShowsPages b from r
  pub draws : HaveOwnDraws b from r
  pub keys : (n : ℕ) → HaveOwnKeys b.programs from (joint_until n r).memory.ledger
  pub refuses : RefusesRightly b r
  pub closed : (frame : ℕ) → owed_in (closed_memory r) frame ≡ None

-- The run was made. If no pages clashed in it, all that is due of it was written.
pub record HasRun {S O : Type 0} (asked : spec.Asked) (answer : Status) (before after : Outside S O) : Type 0 where
  pub record_name : List ℕ
  pub made : Run
  pub asks : AsksRun asked before.files.held record_name made
  pub lawful : IsLawful asks.bundle (Fresh asks.stream) made
  pub written : NoClash made → IsWritten made record_name answer before after
  pub grows : GrowsSome before.output.taken after.output.taken
  pub others : OtherFiles record_name before.files.held after.files.held
  pub nothing_rose : NothingRose before after

-- Faults of writing.

-- The record of a run could not be begun: it is empty or has its bytes, and nothing was done to the output.
pub record BeginFailed {S O : Type 0} (asked : spec.Asked) (before after : Outside S O) : Type 0 where
  pub record_name : List ℕ
  pub due_run : Run
  pub asks : AsksRun asked before.files.held record_name due_run
  pub file : (after.files.held record_name ≡ before.files.held record_name) ⊎ Tells (after.files.held record_name) []
  pub others : OtherFiles record_name before.files.held after.files.held
  pub reading : after.files.reading ≡ before.files.reading
  pub writing : Raised before.files.writing after.files.writing
  pub untouched : after.output ≡ before.output

-- A run broke off. If no pages clashed in it, what is due of it was cut off at one place.
pub record BrokeOff {S O : Type 0} (asked : spec.Asked) (before after : Outside S O) : Type 0 where
  pub record_name : List ℕ
  pub due_run : Run
  pub asks : AsksRun asked before.files.held record_name due_run
  pub cut_off : NoClash due_run → IsCutOff Raised due_run record_name before after
  pub grows : GrowsSome before.output.taken after.output.taken
  pub others : OtherFiles record_name before.files.held after.files.held
  pub reading : after.files.reading ≡ before.files.reading
  pub fault : FailedSome Raised before after

abbrev pub IsWriteFault : {S O : Type 0} → spec.Asked → Outside S O → Outside S O → Type 0
IsWriteFault asked before after =
    LineFailed asked before after ⊎ (BeginFailed asked before after ⊎ BrokeOff asked before after)

-- What each status says. The causes exclude each other, so each status is returned exactly for its own; only want of
-- memory may be returned instead of another, before anything is written.
abbrev pub RunAnswers : {S O : Type 0} → spec.Asked → Outside S O → Outside S O → Status → Type 0
RunAnswers asked before after status.Done = HasRun asked status.Done before after
RunAnswers asked before after status.Violation = HasRun asked status.Violation before after
RunAnswers asked before after status.Usage = IsRefused asked status.Usage before after
RunAnswers asked before after status.BadBundle = IsRefused asked status.BadBundle before after
RunAnswers asked before after status.ReadFault = IsRefused asked status.ReadFault before after
RunAnswers asked before after status.WriteFault = IsWriteFault asked before after
RunAnswers asked before after status.NoMemory = IsRefused asked status.NoMemory before after
RunAnswers asked before after status.NoRandom =
    IsRefused asked status.NoRandom before after ⊎ HasRun asked status.NoRandom before after
RunAnswers asked before after status.BadRecord = ⊥
RunAnswers asked before after status.BadStore = IsRefused asked status.BadStore before after
RunAnswers asked before after status.Frozen = ⊥
RunAnswers asked before after status.BadState = IsRefused asked status.BadState before after

-- Every file keeps its bytes, save the record's of a run that was begun, or might have been. (A write fault and want
-- of randomness say by their causes which.)
abbrev pub KeepsFiles : spec.Asked → Status → (List ℕ → Option (List ℕ)) → (List ℕ → Option (List ℕ)) → Type 0
KeepsFiles (spec.Run bundle record_name steps from) status.Done held held' = OtherFiles record_name held held'
KeepsFiles (spec.Run bundle record_name steps from) status.Violation held held' = OtherFiles record_name held held'
KeepsFiles (spec.Run bundle record_name steps from) status.WriteFault held held' = OtherFiles record_name held held'
KeepsFiles (spec.Run bundle record_name steps from) status.NoRandom held held' = OtherFiles record_name held held'
KeepsFiles asked answer held held' = SameFiles held held'
