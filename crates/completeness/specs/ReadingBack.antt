-- The record of a run, read back if no call on files or output fails.
use Rattle.std.specs.Prelude.{ℕ, ◌≡◌, ◌⊎◌, ◌<◌, ◌-◌, ◌^◌, List, length, slice_get, Option, Some}
use Rattle.cloak_model.specs.declared.image.Bundle.{Bundle}
use Rattle.cloak_model.specs.declared.image.Program.{Program}
use Rattle.cloak_model.specs.Beginning.{Beginning}
use Rattle.cloak_model.specs.DomainAlone.{part_from, started_part}
use Rattle.cloak_model.specs.Parts.{DomainPart, domain_part, kernel_part}
use Rattle.cloak_model.specs.Run.{Run, record_bytes}
use Rattle.command_words.specs.Command as spec
use Rattle.command_parts.specs.declared.status.Status.{Status}
use Rattle.command_parts.specs.Outside.{Outside, NothingRose}
use Rattle.read_back.specs.declared.ending.Ending.TheVariants as ending
use Rattle.read_back.specs.Answering.{SoloAnswers, ViewAnswers}
use Rattle.read_back.specs.Text.{solo_text, view_text}
use Rattle.run_command.specs.ReadingBack.{ReadsBack}
use Rattle.completeness.specs.Asked.{IsBundleFile, WantsMemory}
use Rattle.completeness.specs.Views.{ShowsAll}

-- The file of this name is the record of a run from this beginning that reads back, as every run does (`run_command`,
-- `IsLawful`).
pub record IsRecordOfRun (held : List ℕ → Option (List ℕ)) (name : List ℕ) (b : Bundle) (from : Beginning) (r : Run) :
    Type 0 where
  pub told : held name ≡ Some (record_bytes r)
  pub few : length (record_bytes r) < 2 ^ 64
  pub reads_back : ReadsBack b from r

-- `view` of the record of a run of this bundle shows the console of that run and the kernel's lines of its report, or there
-- was no memory to begin with.
abbrev pub RunsAreViewed : (S O : Type 0) → Type 0
RunsAreViewed S O =
    (bundle_name record_name : List ℕ) (b : Bundle) (from : Beginning) (r : Run) (answer : Status)
    (before after : Outside S O) →
    before.files.reading < 2 ^ 64 - 1 → IsBundleFile before.files.held bundle_name b →
    IsRecordOfRun before.files.held record_name b from r →
    ViewAnswers (spec.View bundle_name record_name) before after answer → NothingRose before after →
    WantsMemory answer before after ⊎ ShowsAll (view_text (kernel_part r.closed.joint) (Some ending.Whole)) answer before after

-- `solo` of it shows the line that the report has of the program, if the program began without files, as each does in a
-- run from a random stream alone.
abbrev pub RunsAreSoloed : (S O : Type 0) → Type 0
RunsAreSoloed S O =
    (d : ℕ) (bundle_name record_name : List ℕ) (b : Bundle) (p : Program) (part : DomainPart) (from : Beginning)
    (r : Run) (answer : Status) (before after : Outside S O) →
    before.files.reading < 2 ^ 64 - 1 → IsBundleFile before.files.held bundle_name b → slice_get b.programs d ≡ Some p →
    part_from d from p ≡ started_part d p → domain_part r.closed.joint d ≡ Some part →
    IsRecordOfRun before.files.held record_name b from r →
    SoloAnswers (spec.Solo d bundle_name record_name) before after answer → NothingRose before after →
    WantsMemory answer before after ⊎ ShowsAll (solo_text part (Some ending.Whole)) answer before after
