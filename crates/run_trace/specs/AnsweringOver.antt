-- What `trace` answers of a program's side of a run over cloaked files.
use Rattle.std.specs.Prelude.{ℕ, ◌≡◌, ◌⊎◌, Bool, true, false, List, ◌++◌, slice_get, Option, Some}
use Rattle.cloak_model.specs.declared.image.Bundle.{Bundle}
use Rattle.cloak_model.specs.declared.image.KernelImage.{KernelImage}
use Rattle.cloak_model.specs.declared.image.Program.{Program}
use Rattle.cloak_model.specs.Items.{Item}
use Rattle.cloak_model.specs.Parts.{DomainPart}
use Rattle.command_words.specs.Command as words
use Rattle.command_parts.specs.Bundles.{IsInFile}
use Rattle.command_parts.specs.Outside.{Outside}
use Rattle.command_parts.specs.Refusing.{Refuses}
use Rattle.command_parts.specs.declared.refusal.Refusal.{Refusal}
use Rattle.command_parts.specs.declared.refusal.Refusal.TheVariants.{NoSuchDomain}
use Rattle.command_parts.specs.declared.status.Status.{Status}
use Rattle.read_back.specs.Answering.{program_unfit}
use Rattle.read_back.specs.AnsweringOver.{missing_line}
use Rattle.read_back.specs.Over.{IsOldRead, LacksOver, OldRead, part_over}
use Rattle.read_back.specs.Reading.{ShowsRecord}
use Rattle.read_back.specs.declared.ending.Ending.{Ending}
use Rattle.run_trace.specs.Answering.{LacksBundle, LacksProgram, RefusesTrace}
use Rattle.run_trace.specs.ProgramTracing.{program_text}
use Rattle.run_trace.specs.Refusing.{is_there, RefusesHart}
use Rattle.run_trace.specs.declared.choice.TraceChoice.{TraceChoice}

abbrev pub over_text : Bool → TraceChoice → ℕ → KernelImage → DomainPart → List Item → Option Ending → List ℕ
over_text whole choice d k p items ended = missing_line whole ++ program_text choice d k p items ended

-- The program began with the files of an earlier run, and what it did was shown.
pub record ShowsSideOver {S O : Type 0} (d : ℕ) (old : words.OldFiles) (bundle : Bundle) (choice : TraceChoice)
    (record_name : List ℕ) (before after : Outside S O) (answer : Status) : Type 0 where
  pub p : Program
  pub program : slice_get bundle.programs d ≡ Some p
  pub read : OldRead
  pub is : IsOldRead before.files.held old bundle d p read
  pub shows : ShowsRecord (program_unfit d bundle.kernel (part_over d p read))
      (over_text read.whole choice d bundle.kernel (part_over d p read)) record_name answer before after

-- It did not, and the line of this reason was shown.
pub record RefusesOver {S O : Type 0} (d : ℕ) (old : words.OldFiles) (bundle : Bundle) (before after : Outside S O)
    (answer : Status) : Type 0 where
  pub p : Program
  pub program : slice_get bundle.programs d ≡ Some p
  pub refused : Refusal
  pub lacks : LacksOver before.files.held old bundle d p before.files.reading after.files.reading after.files.unread refused
  pub line : Refuses before.output after.output refused answer

abbrev pub ShowsOver : {S O : Type 0} → ℕ → words.OldFiles → Bundle → TraceChoice → List ℕ → Outside S O → Outside S O →
    Status → Type 0
ShowsOver d old bundle choice record_name before after answer =
    ShowsSideOver d old bundle choice record_name before after answer
    ⊎ (RefusesOver d old bundle before after answer
    ⊎ (LacksProgram (Some d) bundle × RefusesTrace NoSuchDomain before after answer))

-- With a bundle that has the hart that is named, if one is; or a line says that it has no such hart.
abbrev pub ShowsOverIf : {S O : Type 0} → (has_hart : Bool) → ℕ → words.OldFiles → Bundle → TraceChoice → List ℕ →
    Outside S O → Outside S O → Status → Type 0
ShowsOverIf true d old bundle choice record_name before after answer =
    ShowsOver d old bundle choice record_name before after answer
ShowsOverIf false d old bundle choice record_name before after answer = RefusesHart before after answer

pub record TracesOver {S O : Type 0} (bundle_name record_name : List ℕ) (d : ℕ) (old : words.OldFiles) (choice : TraceChoice)
    (before after : Outside S O) (answer : Status) : Type 0 where
  pub bundle : Bundle
  pub file : IsInFile (before.files.held bundle_name) bundle
  pub shows : ShowsOverIf (is_there choice.hart bundle.kernel.harts) d old bundle choice record_name before after answer

abbrev pub TraceOverAnswers : {S O : Type 0} → List ℕ → List ℕ → ℕ → words.OldFiles → TraceChoice → Outside S O →
    Outside S O → Status → Type 0
TraceOverAnswers bundle_name record_name d old choice before after answer =
    TracesOver bundle_name record_name d old choice before after answer ⊎ LacksBundle bundle_name before after answer
