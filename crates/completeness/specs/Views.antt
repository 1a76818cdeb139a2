-- What `view` and `solo` result in if no call on files or output fails and the record fits.
use Rattle.std.specs.Prelude.{ℕ, ◌≡◌, ◌⊎◌, ◌<◌, ◌-◌, ◌^◌, List, slice_get, Option, Some, None}
use Rattle.cloak_model.specs.declared.image.Bundle.{Bundle}
use Rattle.cloak_model.specs.declared.image.Program.{Program}
use Rattle.cloak_model.specs.DomainAlone.{started_part}
use Rattle.cloak_model.specs.Items.{Item}
use Rattle.cloak_model.specs.Record.{IsRecord}
use Rattle.record_reader.specs.Ahead.{readable}
use Rattle.command_words.specs.Command as spec
use Rattle.command_parts.specs.declared.status.Status.{Status}
use Rattle.command_parts.specs.declared.status.Status.TheVariants as status
use Rattle.command_parts.specs.Outside.{Outside, NothingRose}
use Rattle.read_back.specs.declared.ending.Ending.TheVariants as ending
use Rattle.read_back.specs.Answering.{ViewAnswers, SoloAnswers, viewed_unfit, viewed_text, program_unfit, program_text}
use Rattle.completeness.specs.Asked.{IsBundleFile, OnlyLine, WantsMemory}

-- The file of this name is the record of these items.
pub record IsRecordFile (held : List ℕ → Option (List ℕ)) (name : List ℕ) (items : List Item) : Type 0 where
  pub bytes : List ℕ
  pub told : held name ≡ Some bytes
  pub is : IsRecord (readable bytes) items

-- the record was read to its end, and this was shown
pub record ShowsAll {S O : Type 0} (text : List ℕ) (answer : Status) (before after : Outside S O) : Type 0 where
  pub status : answer ≡ status.Done
  pub line : OnlyLine text before after

-- If these words ask for what the kernel of this bundle makes of this record, each item of it fits, and no call fails,
-- the kernel's console and lines were shown, or there was no memory to begin with.
abbrev pub CompletesView : {S O : Type 0} → (bundle_name record_name : List ℕ) → Status → Outside S O → Outside S O → Type 0
CompletesView bundle_name record_name answer before after =
    (b : Bundle) (items : List Item) →
    IsBundleFile before.files.held bundle_name b → IsRecordFile before.files.held record_name items →
    viewed_unfit b.kernel items ≡ None → NothingRose before after →
    WantsMemory answer before after ⊎ ShowsAll (viewed_text b.kernel items (Some ending.Whole)) answer before after

-- The same of a program that the bundle has.
abbrev pub CompletesSolo : {S O : Type 0} → ℕ → (bundle_name record_name : List ℕ) → Status → Outside S O → Outside S O →
    Type 0
CompletesSolo d bundle_name record_name answer before after =
    (b : Bundle) (p : Program) (items : List Item) →
    IsBundleFile before.files.held bundle_name b → slice_get b.programs d ≡ Some p →
    IsRecordFile before.files.held record_name items → program_unfit d b.kernel (started_part d p) items ≡ None →
    NothingRose before after →
    WantsMemory answer before after
    ⊎ ShowsAll (program_text d b.kernel (started_part d p) items (Some ending.Whole)) answer before after

-- (A count that stands at its last value cannot rise any more.)
abbrev pub ViewsAreComplete : (S O : Type 0) → Type 0
ViewsAreComplete S O =
    (bundle_name record_name : List ℕ) (answer : Status) (before after : Outside S O) →
    before.files.reading < 2 ^ 64 - 1 → ViewAnswers (spec.View bundle_name record_name) before after answer →
    CompletesView bundle_name record_name answer before after

abbrev pub SolosAreComplete : (S O : Type 0) → Type 0
SolosAreComplete S O =
    (d : ℕ) (bundle_name record_name : List ℕ) (answer : Status) (before after : Outside S O) →
    before.files.reading < 2 ^ 64 - 1 → SoloAnswers (spec.Solo d bundle_name record_name) before after answer →
    CompletesSolo d bundle_name record_name answer before after
