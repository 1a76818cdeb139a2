-- A command that makes a file of what it reads: it reads files for the bytes that are due, and then it writes these, or
-- shows why there are none. `IsDue` says which bytes are due, and `IsTold` which text tells what is faulty.
use Rattle.std.specs.Prelude.{ℕ, ◌≡◌, ◌⊎◌, List, Vec, string_bytes, Result, Ok, Err}
use Rattle.std.specs.declared.alloc.Global.{Global}
use Rattle.io_traits.specs.Told.{Grows, GrowsByFront, SameFiles, Rose}
use Rattle.command_parts.specs.Outside.{FilesOutside, Outside, Output, OnlyRead}
use Rattle.command_parts.specs.Refusal.{refusal_line}
use Rattle.command_parts.specs.declared.refusal.Refusal.{Refusal}
use Rattle.command_parts.specs.declared.refusal.Refusal.TheVariants as refusal
use Rattle.command_parts.specs.declared.status.Status.{Status}
use Rattle.command_parts.specs.declared.status.Status.TheVariants as status
use Rattle.asm_text.specs.declared.making.Reason.{Reason}
use Rattle.asm_text.specs.declared.making.Reason.TheVariants.{ReadFault, NoMemory, Faulty}
use Rattle.command_parts.specs.Files.{WritesFile, WritesFront}

-- what was read for: the bytes that are due, or why there are none
abbrev pub MadeFile : Type 0
MadeFile = Result (Vec ℕ Global) Reason

-- ---- reading

-- a call that reads a file failed
pub record FailsToRead {S : Type 0} (before after : FilesOutside S) : Type 0 where
  pub held : SameFiles before.held after.held
  pub reading : Rose before.reading after.reading
  pub writing : after.writing ≡ before.writing

-- a reason that is no fault of reading; what refused memory, no clause can name
abbrev pub IsWhy : (List ℕ → Type 0) → Reason → Type 0
IsWhy IsTold ReadFault = ⊥
IsWhy IsTold NoMemory = Unit {0}
IsWhy IsTold (Faulty text) = IsTold (string_bytes text)

-- the cause of a reason
abbrev pub HasReason : {S : Type 0} → (List ℕ → Type 0) → Reason → FilesOutside S → FilesOutside S → Type 0
HasReason IsTold ReadFault before after = FailsToRead before after
HasReason IsTold reason before after = IsWhy IsTold reason × OnlyRead before after

-- the reason for which a file was not read
abbrev pub refusal_reason : Refusal → Reason
refusal_reason refusal.ReadFault = ReadFault
refusal_reason refused = NoMemory

abbrev pub ReadsFor : {S : Type 0} → (IsDue IsTold : List ℕ → Type 0) → FilesOutside S → FilesOutside S → MadeFile → Type 0
ReadsFor IsDue IsTold before after (Ok bytes) = IsDue bytes.items × OnlyRead before after
ReadsFor IsDue IsTold before after (Err reason) = HasReason IsTold reason before after

-- ---- writing

abbrev pub WritesAs : {S : Type 0} → (name bytes : List ℕ) → FilesOutside S → FilesOutside S → Status → Type 0
WritesAs name bytes before after status.Done = WritesFile name bytes before after
WritesAs name bytes before after status.WriteFault = WritesFront name bytes before after
WritesAs name bytes before after answer = ⊥

-- ---- showing why not

-- the status and the text of a reason
abbrev pub reason_status : Reason → Status
reason_status ReadFault = status.ReadFault
reason_status NoMemory = status.NoMemory
reason_status (Faulty text) = status.BadBundle

abbrev pub reason_text : Reason → List ℕ
reason_text ReadFault = refusal_line refusal.ReadFault
reason_text NoMemory = refusal_line refusal.NoMemory
reason_text (Faulty text) = string_bytes text

-- its text was shown, and its status is the answer
pub record ShowsReason {O : Type 0} (reason : Reason) (before after : Output O) (answer : Status) : Type 0 where
  pub answered : answer ≡ reason_status reason
  pub text_shown : Grows before.taken after.taken (reason_text reason)
  pub faults : after.faults ≡ before.faults

-- a front of its text was shown
pub record ShowsReasonFront {O : Type 0} (reason : Reason) (before after : Output O) (answer : Status) : Type 0 where
  pub answered : answer ≡ status.WriteFault
  pub front_shown : GrowsByFront before.taken after.taken (reason_text reason)
  pub faults : Rose before.faults after.faults

abbrev pub ShowsWhy : {O : Type 0} → Reason → Output O → Output O → Status → Type 0
ShowsWhy reason before after answer =
    ShowsReason reason before after answer ⊎ ShowsReasonFront reason before after answer

-- ---- the command

-- The bytes that are due were written, and nothing was shown; or it was shown why there are none, and nothing was written.
abbrev pub Concludes : {S O : Type 0} → MadeFile → List ℕ → Outside S O → Outside S O → Status → Type 0
Concludes (Ok bytes) name before after answer =
    WritesAs name bytes.items before.files after.files answer × (after.output ≡ before.output)
Concludes (Err reason) name before after answer =
    ShowsWhy reason before.output after.output answer × (after.files ≡ before.files)

-- what such a command, which makes the file of this name, returns
pub record MakesAs {S O : Type 0} (IsDue IsTold : List ℕ → Type 0) (name : List ℕ) (before after : Outside S O) (answer : Status)
    : Type 0 where
  pub made : MadeFile
  pub files : FilesOutside S
  pub reads : ReadsFor IsDue IsTold before.files files made
  pub concludes : Concludes made name (record { files = files; output = before.output }) after answer
