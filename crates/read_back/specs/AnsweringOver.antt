-- The answers of `solo` for the record of a run over cloaked files, each status with its cause.
use Rattle.std.specs.Prelude.{ℕ, ◌≡◌, ◌≤◌, ◌⊎◌, Bool, true, false, List, [], ◌++◌, codes, length, Option, Some, slice_get}
use Rattle.io_traits.specs.Told.{Grows, GrowsByFront}
use Rattle.cloak_model.specs.declared.image.Bundle.{Bundle}
use Rattle.cloak_model.specs.declared.image.KernelImage.{KernelImage}
use Rattle.cloak_model.specs.declared.image.Program.{Program}
use Rattle.cloak_model.specs.Items.{Item}
use Rattle.cloak_model.specs.Parts.{DomainPart}
use Rattle.command_words.specs.Command as spec
use Rattle.command_parts.specs.declared.refusal.Refusal.{Refusal}
use Rattle.command_parts.specs.declared.refusal.Refusal.TheVariants as refusal
use Rattle.command_parts.specs.declared.status.Status.{Status}
use Rattle.command_parts.specs.declared.status.Status.TheVariants as status
use Rattle.command_parts.specs.Bundles.{IsInFile}
use Rattle.command_parts.specs.NoRun.{IsRefused, LineFailed}
use Rattle.command_parts.specs.Outside.{FilesOutside, Outside, Raised}
use Rattle.command_parts.specs.Refusal.{refusal_line, status_of_refusal}
use Rattle.read_back.specs.Answering.{OnlyShows, program_text, program_unfit}
use Rattle.read_back.specs.Over.{IsOldRead, LacksOver, OldRead, part_over}
use Rattle.read_back.specs.Reading.{BreaksOff, ReadsRecord}
use Rattle.read_back.specs.declared.ending.Ending.{Ending}

-- What is shown.

-- the line that says that pages are taken as never shown, as they were not found; none if all were
abbrev pub missing_line : Bool → List ℕ
missing_line true = []
missing_line false = codes "files: a page is not on the disk\n"

abbrev pub over_text : Bool → ℕ → KernelImage → DomainPart → List Item → Option Ending → List ℕ
over_text whole d k part items ended = missing_line whole ++ program_text d k part items ended

-- What is asked for.

-- The words ask for what a program of this bundle, which began with these files, makes of a record.
pub record AsksSoloOver (asked : spec.Asked) (held : List ℕ → Option (List ℕ)) (record_name : List ℕ) (bundle : Bundle)
    (old : spec.OldFiles) (d : ℕ) (p : Program) : Type 0 where
  pub bundle_name : List ℕ
  pub solo : asked ≡ spec.SoloOver d bundle_name record_name old
  pub file : IsInFile (held bundle_name) bundle
  pub program : slice_get bundle.programs d ≡ Some p

-- Why nothing is read of the record.

-- The bundle has no program of the number that the words name.
pub record LacksProgramOver {S : Type 0} (asked : spec.Asked) (before after : FilesOutside S) : Type 0 where
  pub d : ℕ
  pub bundle_name : List ℕ
  pub record_name : List ℕ
  pub old : spec.OldFiles
  pub solo : asked ≡ spec.SoloOver d bundle_name record_name old
  pub bundle : Bundle
  pub file : IsInFile (before.held bundle_name) bundle
  pub too_few : length bundle.programs ≤ d
  pub reading : after.reading ≡ before.reading

-- The program does not begin with the files that the words name.
pub record LacksFilesOver {S : Type 0} (asked : spec.Asked) (refused : Refusal) (before after : FilesOutside S) : Type 0
  where
    pub record_name : List ℕ
    pub bundle : Bundle
    pub old : spec.OldFiles
    pub d : ℕ
    pub p : Program
    pub asks : AsksSoloOver asked before.held record_name bundle old d p
    pub lacks : LacksOver before.held old bundle d p before.reading after.reading after.unread refused

abbrev pub HasCauseOver : {S : Type 0} → spec.Asked → Refusal → FilesOutside S → FilesOutside S → Type 0
HasCauseOver asked refusal.NoSuchDomain before after = LacksProgramOver asked before after
HasCauseOver asked refused before after = LacksFilesOver asked refused before after

-- The line of a reason of this status was shown.
pub record IsRefusedOver {S O : Type 0} (asked : spec.Asked) (answer : Status) (before after : Outside S O) : Type 0 where
  pub refused : Refusal
  pub status : answer ≡ status_of_refusal refused
  pub cause : HasCauseOver asked refused before.files after.files
  pub only : OnlyShows before after
  pub line : Grows before.output.taken after.output.taken (refusal_line refused)
  pub faults : after.output.faults ≡ before.output.faults

-- A front of such a line was shown.
pub record LineFailedOver {S O : Type 0} (asked : spec.Asked) (before after : Outside S O) : Type 0 where
  pub refused : Refusal
  pub cause : HasCauseOver asked refused before.files after.files
  pub only : OnlyShows before after
  pub line : GrowsByFront before.output.taken after.output.taken (refusal_line refused)
  pub faults : Raised before.output.faults after.output.faults

-- The answers.

pub record HasSoloOver {S O : Type 0} (asked : spec.Asked) (answer : Status) (before after : Outside S O) : Type 0 where
  pub record_name : List ℕ
  pub bundle : Bundle
  pub old : spec.OldFiles
  pub d : ℕ
  pub p : Program
  pub asks : AsksSoloOver asked before.files.held record_name bundle old d p
  pub read : OldRead
  pub is : IsOldRead before.files.held old bundle d p read
  pub reads : ReadsRecord (program_unfit d bundle.kernel (part_over d p read))
      (over_text read.whole d bundle.kernel (part_over d p read)) record_name answer before after
  pub only : OnlyShows before after

pub record BreaksSoloOver {S O : Type 0} (asked : spec.Asked) (before after : Outside S O) : Type 0 where
  pub record_name : List ℕ
  pub bundle : Bundle
  pub old : spec.OldFiles
  pub d : ℕ
  pub p : Program
  pub asks : AsksSoloOver asked before.files.held record_name bundle old d p
  pub read : OldRead
  pub is : IsOldRead before.files.held old bundle d p read
  pub breaks : BreaksOff Raised (program_unfit d bundle.kernel (part_over d p read))
      (over_text read.whole d bundle.kernel (part_over d p read)) record_name before after
  pub only : OnlyShows before after

-- What each status says. Its causes exclude each other, so each comes exactly then; only want of memory may come instead
-- of another, before the record is read.
abbrev pub SoloOverAnswers : {S O : Type 0} → spec.Asked → Outside S O → Outside S O → Status → Type 0
SoloOverAnswers asked before after status.Done = HasSoloOver asked status.Done before after
SoloOverAnswers asked before after status.Violation = ⊥
SoloOverAnswers asked before after status.Usage = IsRefusedOver asked status.Usage before after
SoloOverAnswers asked before after status.BadBundle = IsRefused asked status.BadBundle before after
SoloOverAnswers asked before after status.ReadFault =
    IsRefused asked status.ReadFault before after
    ⊎ (IsRefusedOver asked status.ReadFault before after ⊎ HasSoloOver asked status.ReadFault before after)
SoloOverAnswers asked before after status.WriteFault =
    LineFailed asked before after ⊎ (LineFailedOver asked before after ⊎ BreaksSoloOver asked before after)
SoloOverAnswers asked before after status.NoMemory =
    IsRefused asked status.NoMemory before after ⊎ IsRefusedOver asked status.NoMemory before after
SoloOverAnswers asked before after status.NoRandom = ⊥
SoloOverAnswers asked before after status.BadRecord = HasSoloOver asked status.BadRecord before after
SoloOverAnswers asked before after status.BadStore = IsRefusedOver asked status.BadStore before after
SoloOverAnswers asked before after status.Frozen = ⊥
SoloOverAnswers asked before after status.BadState = ⊥
