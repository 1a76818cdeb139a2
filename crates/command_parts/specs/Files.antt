-- What reading a file does to the count of reading faults, and what writing one leaves of it.
use Rattle.std.specs.Prelude.{ℕ, ◌≡◌, ◌⊎◌, List, Option, Result, Ok, Err}
use Rattle.io_traits.specs.Told.{OtherFiles, Rose, Tells}
use Rattle.command_parts.specs.declared.refusal.Refusal.{Refusal}
use Rattle.command_parts.specs.declared.refusal.Refusal.TheVariants.{ReadFault, NoMemory}
pub use Rattle.frozen_run.specs.Writing.{TellsFront}
use Rattle.command_parts.specs.Outside.{FilesOutside}

-- A fault of reading is returned exactly when the count rose. Besides it only want of memory is possible.
abbrev pub ReadsFile : {A : Type 0} → ℕ → ℕ → Result A Refusal → Type 0
ReadsFile before now (Ok a) = now ≡ before
ReadsFile before now (Err ReadFault) = Rose before now
ReadsFile before now (Err NoMemory) = now ≡ before
ReadsFile before now (Err _) = ⊥

-- If a call that reads this file failed, it is the one of which reading failed last, if that is told.
abbrev pub TellsUnread : Option (List ℕ) → List ℕ → Refusal → Type 0
TellsUnread told name ReadFault = Tells told name
TellsUnread told name _ = Unit {0}

-- The file of this name has these bytes. Other files keep theirs, and no call on files failed.
pub record WritesFile {S : Type 0} (name bytes : List ℕ) (before after : FilesOutside S) : Type 0 where
  pub file : Tells (after.held name) bytes
  pub others : OtherFiles name before.held after.held
  pub reading : after.reading ≡ before.reading
  pub writing : after.writing ≡ before.writing

-- Writing failed: the file has the bytes that it had, as it could not be begun, or a front of these.
pub record WritesFront {S : Type 0} (name bytes : List ℕ) (before after : FilesOutside S) : Type 0 where
  pub file : (after.held name ≡ before.held name) ⊎ TellsFront (after.held name) bytes
  pub others : OtherFiles name before.held after.held
  pub reading : after.reading ≡ before.reading
  pub writing : Rose before.writing after.writing
