-- The answers of `view` and `solo`, each status with its cause.
use Rattle.std.specs.Prelude.{ℕ, ◌≡◌, ◌⊎◌, List, Option, Some, slice_get}
use Rattle.io_traits.specs.Told.{SameFiles}
use Rattle.cloak_model.specs.declared.image.Bundle.{Bundle}
use Rattle.cloak_model.specs.declared.image.KernelImage.{KernelImage}
use Rattle.cloak_model.specs.declared.image.Program.{Program}
use Rattle.cloak_model.specs.Items.{Item}
use Rattle.cloak_model.specs.KernelAlone.{kernel_alone}
use Rattle.cloak_model.specs.DomainAlone.{domain_alone_from, started_part}
use Rattle.cloak_model.specs.Parts.{DomainPart}
use Rattle.command_words.specs.Command as spec
use Rattle.command_parts.specs.declared.status.Status.{Status}
use Rattle.command_parts.specs.declared.status.Status.TheVariants as status
use Rattle.command_parts.specs.Bundles.{IsInFile}
use Rattle.command_parts.specs.NoRun.{IsRefused, LineFailed}
use Rattle.command_parts.specs.Outside.{Outside, Raised}
use Rattle.read_back.specs.Reading.{ReadsRecord, BreaksOff}
use Rattle.read_back.specs.Text.{view_text, solo_text}
use Rattle.read_back.specs.declared.ending.Ending.{Ending}

-- The machines.

abbrev pub viewed_unfit : KernelImage → List Item → Option ℕ
viewed_unfit k items = (kernel_alone k items).unfit

abbrev pub viewed_text : KernelImage → List Item → Option Ending → List ℕ
viewed_text k items ended = view_text (kernel_alone k items).kernel ended

-- of a program that begins as a part

abbrev pub program_unfit : ℕ → KernelImage → DomainPart → List Item → Option ℕ
program_unfit d k p items = (domain_alone_from d k.schedule p items).unfit

abbrev pub program_text : ℕ → KernelImage → DomainPart → List Item → Option Ending → List ℕ
program_text d k p items ended = solo_text (domain_alone_from d k.schedule p items).part ended

-- What is asked for.

-- The words ask for what the kernel of this bundle makes of a record, or what one of its programs does.
pub record AsksView (asked : spec.Asked) (held : List ℕ → Option (List ℕ)) (record_name : List ℕ) (bundle : Bundle) :
    Type 0 where
  pub bundle_name : List ℕ
  pub view : asked ≡ spec.View bundle_name record_name
  pub file : IsInFile (held bundle_name) bundle

pub record AsksSolo (asked : spec.Asked) (held : List ℕ → Option (List ℕ)) (record_name : List ℕ) (bundle : Bundle)
    (d : ℕ) (p : Program) : Type 0 where
  pub bundle_name : List ℕ
  pub solo : asked ≡ spec.Solo d bundle_name record_name
  pub file : IsInFile (held bundle_name) bundle
  pub program : slice_get bundle.programs d ≡ Some p

-- no file was changed
pub record OnlyShows {S O : Type 0} (before after : Outside S O) : Type 0 where
  pub held : SameFiles before.files.held after.files.held
  pub writing : after.files.writing ≡ before.files.writing

-- The answers.

pub record HasView {S O : Type 0} (asked : spec.Asked) (answer : Status) (before after : Outside S O) : Type 0 where
  pub record_name : List ℕ
  pub bundle : Bundle
  pub asks : AsksView asked before.files.held record_name bundle
  pub reads : ReadsRecord (viewed_unfit bundle.kernel) (viewed_text bundle.kernel) record_name answer before after
  pub only : OnlyShows before after

pub record BreaksView {S O : Type 0} (asked : spec.Asked) (before after : Outside S O) : Type 0 where
  pub record_name : List ℕ
  pub bundle : Bundle
  pub asks : AsksView asked before.files.held record_name bundle
  pub breaks : BreaksOff Raised (viewed_unfit bundle.kernel) (viewed_text bundle.kernel) record_name before after
  pub only : OnlyShows before after

pub record HasSolo {S O : Type 0} (asked : spec.Asked) (answer : Status) (before after : Outside S O) : Type 0 where
  pub record_name : List ℕ
  pub bundle : Bundle
  pub d : ℕ
  pub p : Program
  pub asks : AsksSolo asked before.files.held record_name bundle d p
  pub reads : ReadsRecord (program_unfit d bundle.kernel (started_part d p))
      (program_text d bundle.kernel (started_part d p)) record_name answer before after
  pub only : OnlyShows before after

pub record BreaksSolo {S O : Type 0} (asked : spec.Asked) (before after : Outside S O) : Type 0 where
  pub record_name : List ℕ
  pub bundle : Bundle
  pub d : ℕ
  pub p : Program
  pub asks : AsksSolo asked before.files.held record_name bundle d p
  pub breaks : BreaksOff Raised (program_unfit d bundle.kernel (started_part d p))
      (program_text d bundle.kernel (started_part d p)) record_name before after
  pub only : OnlyShows before after

-- What each status says of `view`. Its causes exclude each other, so each comes exactly then; only want of memory may
-- come instead of another, before the record is read.
abbrev pub ViewAnswers : {S O : Type 0} → spec.Asked → Outside S O → Outside S O → Status → Type 0
ViewAnswers asked before after status.Done = HasView asked status.Done before after
ViewAnswers asked before after status.Violation = ⊥
ViewAnswers asked before after status.Usage = ⊥
ViewAnswers asked before after status.BadBundle = IsRefused asked status.BadBundle before after
ViewAnswers asked before after status.ReadFault =
    IsRefused asked status.ReadFault before after ⊎ HasView asked status.ReadFault before after
ViewAnswers asked before after status.WriteFault = LineFailed asked before after ⊎ BreaksView asked before after
ViewAnswers asked before after status.NoMemory = IsRefused asked status.NoMemory before after
ViewAnswers asked before after status.NoRandom = ⊥
ViewAnswers asked before after status.BadRecord = HasView asked status.BadRecord before after
ViewAnswers asked before after status.BadStore = ⊥
ViewAnswers asked before after status.Frozen = ⊥
ViewAnswers asked before after status.BadState = ⊥

-- The same of `solo`, for which the bundle may lack the program.
abbrev pub SoloAnswers : {S O : Type 0} → spec.Asked → Outside S O → Outside S O → Status → Type 0
SoloAnswers asked before after status.Done = HasSolo asked status.Done before after
SoloAnswers asked before after status.Violation = ⊥
SoloAnswers asked before after status.Usage = IsRefused asked status.Usage before after
SoloAnswers asked before after status.BadBundle = IsRefused asked status.BadBundle before after
SoloAnswers asked before after status.ReadFault =
    IsRefused asked status.ReadFault before after ⊎ HasSolo asked status.ReadFault before after
SoloAnswers asked before after status.WriteFault = LineFailed asked before after ⊎ BreaksSolo asked before after
SoloAnswers asked before after status.NoMemory = IsRefused asked status.NoMemory before after
SoloAnswers asked before after status.NoRandom = ⊥
SoloAnswers asked before after status.BadRecord = HasSolo asked status.BadRecord before after
SoloAnswers asked before after status.BadStore = ⊥
SoloAnswers asked before after status.Frozen = ⊥
SoloAnswers asked before after status.BadState = ⊥
