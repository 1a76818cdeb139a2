-- What `draw` answers, and what it writes.
use Rattle.std.specs.Prelude.{ℕ, ◌≡◌, ◌⊎◌, Bool, true, false, List, Option, Result, Ok, Err}
use Rattle.cloak_base.specs.declared.causes.NoMemory.{NoMemory}
use Rattle.cloak_model.specs.declared.image.Bundle.{Bundle}
use Rattle.cloak_model.specs.declared.image.KernelImage.{KernelImage}
use Rattle.cloak_model.specs.KernelAlone.{opened_kernel}
use Rattle.alone_views.specs.KernelStanding.{StandsForKernel}
use Rattle.io_traits.specs.Told.{Grows, GrowsByFront, Rose, SameFiles}
use Rattle.command_parts.specs.Bundles.{IsInFile, ReadsBundle}
use Rattle.command_parts.specs.Outside.{Outside, Output}
use Rattle.command_parts.specs.Refusing.{Refuses}
use Rattle.command_parts.specs.declared.refusal.Refusal.{Refusal}
use Rattle.command_parts.specs.declared.refusal.Refusal.TheVariants as refusal
use Rattle.command_parts.specs.declared.status.Status.{Status}
use Rattle.command_parts.specs.declared.status.Status.TheVariants as status
use Rattle.read_back.specs.Reading.{status_of_ending}
use Rattle.read_back.specs.Text.{fault_line}
use Rattle.read_back.specs.declared.ending.Ending.{Ending}
use Rattle.read_back.specs.declared.ending.Ending.TheVariants as ending
use Rattle.svg_text.specs.Writing.{IsPicture}
use Rattle.draw_command.specs.Replaying.{ReadsRun}
use Rattle.draw_command.specs.declared.command.Made.{Made}
use Rattle.draw_command.specs.declared.command.Made.TheVariants as made
use Rattle.draw_command.specs.declared.command.Once.{Once}
use Rattle.draw_command.specs.declared.run.Run.{Run}
use Rattle.command_parts.specs.Files.{WritesFile, WritesFront}

-- ---- reading

-- the kernel of a run stands for that of an image before any item
abbrev pub OpensRun : KernelImage → Run → Type 0
OpensRun k run = StandsForKernel run.kernel k.schedule (opened_kernel k)

-- reading ended by a fault of reading
abbrev pub is_unread : Ending → Bool
is_unread ending.Unread = true
is_unread (ending.Unfit step) = false
is_unread (ending.Fault fault) = false
is_unread ending.Whole = false

-- a record was read by the kernel alone up to where reading ended, or there was no memory to begin with
abbrev pub ReadsOnce : KernelImage → Option (List ℕ) → ℕ → ℕ → Result Once NoMemory → Type 0
ReadsOnce k told before now (Ok once) = ReadsRun k told before now once.ending
ReadsOnce k told before now (Err want) = now ≡ before

-- a picture was made of a record, and no call that reads failed; or one failed; or there was no memory
abbrev pub MakesPicture : KernelImage → Option (List ℕ) → ℕ → ℕ → Made → Type 0
MakesPicture k told before now (made.Drawn text ended) =
    IsPicture text.items × (ReadsRun k told before now ended × (now ≡ before))
MakesPicture k told before now made.Unread = ReadsRun k told before now ending.Unread
MakesPicture k told before now made.NoMemory = now ≡ before

-- ---- writing

-- The line for how reading ended was shown with its status; or the output failed, and has a front of it.
abbrev pub ShowsEnding : {O : Type 0} → Ending → Output O → Output O → Status → Type 0
ShowsEnding ended before after answer =
    ((answer ≡ status_of_ending ended) × Grows before.taken after.taken (fault_line ended) × (after.faults ≡ before.faults))
    ⊎ ((answer ≡ status.WriteFault) × GrowsByFront before.taken after.taken (fault_line ended) × Rose before.faults after.faults)

-- The picture was written, and then it was shown how reading ended; or it was not written whole, and nothing was shown.
abbrev pub WritesAndShows : {S O : Type 0} → List ℕ → Ending → List ℕ → Outside S O → Outside S O → Status → Type 0
WritesAndShows bytes ended name before after answer =
    (WritesFile name bytes before.files after.files × ShowsEnding ended before.output after.output answer)
    ⊎ ((answer ≡ status.WriteFault) × WritesFront name bytes before.files after.files × (after.output ≡ before.output))

-- what was made is written, or it is shown why there is nothing
abbrev pub Concludes : {S O : Type 0} → Made → List ℕ → Outside S O → Outside S O → Status → Type 0
Concludes (made.Drawn text ended) name before after answer = WritesAndShows text.items ended name before after answer
Concludes made.Unread name before after answer =
    ShowsEnding ending.Unread before.output after.output answer × (after.files ≡ before.files)
Concludes made.NoMemory name before after answer =
    Refuses before.output after.output refusal.NoMemory answer × (after.files ≡ before.files)

-- ---- the command

-- Some bytes are a picture of a run, and were written. The status is that of the record, as `view` has it, unless writing failed.
pub record DrawsRecord {S O : Type 0} (k : KernelImage) (record_name out_name : List ℕ) (before after : Outside S O)
    (answer : Status) : Type 0 where
  pub bytes : List ℕ
  pub picture : IsPicture bytes
  pub ended : Ending
  pub read : ReadsRun k (before.files.held record_name) before.files.reading after.files.reading ended
  pub reading : after.files.reading ≡ before.files.reading
  pub wrote : WritesAndShows bytes ended out_name before after answer

-- A call that reads the record failed, and this was shown. No file was changed.
pub record LacksRecord {S O : Type 0} (k : KernelImage) (record_name : List ℕ) (before after : Outside S O)
    (answer : Status) : Type 0 where
  pub read : ReadsRun k (before.files.held record_name) before.files.reading after.files.reading ending.Unread
  pub held : SameFiles before.files.held after.files.held
  pub writing : after.files.writing ≡ before.files.writing
  pub line : ShowsEnding ending.Unread before.output after.output answer

-- A line says why nothing was drawn. No file was changed.
pub record RefusesDrawing {S O : Type 0} (refused : Refusal) (before after : Outside S O) (answer : Status) : Type 0 where
  pub held : SameFiles before.files.held after.files.held
  pub writing : after.files.writing ≡ before.files.writing
  pub line : Refuses before.output after.output refused answer

-- with a bundle
abbrev pub DrawsBundle : {S O : Type 0} → Bundle → (record_name out_name : List ℕ) → Outside S O → Outside S O → Status →
    Type 0
DrawsBundle bundle record_name out_name before after answer =
    DrawsRecord bundle.kernel record_name out_name before after answer
    ⊎ (LacksRecord bundle.kernel record_name before after answer
    ⊎ (RefusesDrawing refusal.NoMemory before after answer × (after.files.reading ≡ before.files.reading)))

-- The file is this bundle, if its bytes are told, and its run was drawn.
pub record DrawsRun {S O : Type 0} (bundle_name record_name out_name : List ℕ) (before after : Outside S O)
    (answer : Status) : Type 0 where
  pub bundle : Bundle
  pub file : IsInFile (before.files.held bundle_name) bundle
  pub draws : DrawsBundle bundle record_name out_name before after answer

-- The bundle was not read, and the line of this was shown.
pub record LacksBundle {S O : Type 0} (bundle_name : List ℕ) (before after : Outside S O) (answer : Status) : Type 0 where
  pub refused : Refusal
  pub cause : ReadsBundle (before.files.held bundle_name) before.files.reading after.files.reading (Err refused)
  pub refuses : RefusesDrawing refused before after answer

abbrev pub DrawAnswers : {S O : Type 0} → (bundle_name record_name out_name : List ℕ) → Outside S O → Outside S O →
    Status → Type 0
DrawAnswers bundle_name record_name out_name before after answer =
    DrawsRun bundle_name record_name out_name before after answer ⊎ LacksBundle bundle_name before after answer
