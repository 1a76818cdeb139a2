-- What `store` returns, each status with its cause.
use Rattle.std.specs.Prelude.{ℕ, ◌≡◌, ◌⊎◌, List, Option}
use Rattle.io_traits.specs.Told.{SameFiles}
use Rattle.command_words.specs.Command as spec
use Rattle.command_parts.specs.declared.status.Status.{Status}
use Rattle.command_parts.specs.declared.status.Status.TheVariants as status
use Rattle.command_parts.specs.NoRun.{IsRefused, LineFailed}
use Rattle.command_parts.specs.Outside.{Outside}
use Rattle.command_parts.specs.Storing.{AsksStored, StoreSources}
use Rattle.store_command.specs.Leaving.{OtherThanStored}
use Rattle.store_command.specs.Recording.{StoresAll, StoresFront}

-- The words ask for the run over the files of these sources, and this became of it.
pub record AsksFor {S O : Type 0} (asked : spec.Asked) (before : Outside S O)
    (Becomes : spec.StoreNames → ℕ → ℕ → StoreSources → Type 0) : Type 0 where
  pub names : spec.StoreNames
  pub counter : ℕ
  pub steps : ℕ
  pub randomness : spec.Randomness
  pub store : asked ≡ spec.Store names counter steps randomness
  pub sources : StoreSources
  pub asks : AsksStored names counter randomness before.files.held sources
  pub becomes : Becomes names counter steps sources

-- The run was made, and no call failed.
abbrev pub HasStored : {S O : Type 0} → spec.Asked → Status → Outside S O → Outside S O → Type 0
HasStored asked answer before after =
    AsksFor asked before (λ names counter steps s. StoresAll names counter steps s answer before after)

-- Writing it broke off.
abbrev pub StoringBrokeOff : {S O : Type 0} → spec.Asked → Outside S O → Outside S O → Type 0
StoringBrokeOff asked before after =
    AsksFor asked before (λ names counter steps s. StoresFront names counter steps s before after)

-- What each status says. Its causes exclude each other; only want of memory may stand instead of another, before
-- anything is written.
abbrev pub StoreAnswers : {S O : Type 0} → spec.Asked → Outside S O → Outside S O → Status → Type 0
StoreAnswers asked before after status.Done = HasStored asked status.Done before after
StoreAnswers asked before after status.Violation = HasStored asked status.Violation before after
StoreAnswers asked before after status.Usage = IsRefused asked status.Usage before after
StoreAnswers asked before after status.BadBundle = IsRefused asked status.BadBundle before after
StoreAnswers asked before after status.ReadFault = IsRefused asked status.ReadFault before after
StoreAnswers asked before after status.WriteFault = LineFailed asked before after ⊎ StoringBrokeOff asked before after
StoreAnswers asked before after status.NoMemory = IsRefused asked status.NoMemory before after
StoreAnswers asked before after status.NoRandom =
    IsRefused asked status.NoRandom before after ⊎ HasStored asked status.NoRandom before after
StoreAnswers asked before after status.BadRecord = ⊥
StoreAnswers asked before after status.BadStore = IsRefused asked status.BadStore before after
StoreAnswers asked before after status.Frozen = ⊥
StoreAnswers asked before after status.BadState = IsRefused asked status.BadState before after

-- Every file keeps its bytes, save the record, the store file and the bundle that are written.
abbrev pub KeepsFiles : spec.StoreNames → Status → (List ℕ → Option (List ℕ)) → (List ℕ → Option (List ℕ)) → Type 0
KeepsFiles names status.Done held held' = OtherThanStored names held held'
KeepsFiles names status.Violation held held' = OtherThanStored names held held'
KeepsFiles names status.WriteFault held held' = OtherThanStored names held held'
KeepsFiles names status.NoRandom held held' = OtherThanStored names held held'
KeepsFiles names answer held held' = SameFiles held held'
