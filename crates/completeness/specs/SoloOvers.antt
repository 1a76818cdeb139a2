-- What `solo` of the record of a run over cloaked files results in if no call on files or output fails.
use Rattle.std.specs.Prelude.{ℕ, ◌≡◌, ◌≢◌, ◌⊎◌, ◌<◌, ◌-◌, ◌^◌, List, slice_get, Some}
use Rattle.cloak_model.specs.declared.image.Bundle.{Bundle}
use Rattle.cloak_model.specs.declared.image.Program.{Program}
use Rattle.command_words.specs.Command as spec
use Rattle.command_parts.specs.declared.status.Status.{Status}
use Rattle.command_parts.specs.declared.status.Status.TheVariants as status
use Rattle.command_parts.specs.Outside.{Outside, NothingRose}
use Rattle.read_back.specs.AnsweringOver.{HasSoloOver, IsRefusedOver, SoloOverAnswers}
use Rattle.completeness.specs.Asked.{IsBundleFile, WantsMemory}

-- If these words ask for what a program of this bundle makes of a record, and no call fails: the files that it began with
-- were refused, or the record was read to its end or its first fault, or there was no memory to begin with.
abbrev pub CompletesSoloOver : {S O : Type 0} → ℕ → (bundle_name record_name : List ℕ) → spec.OldFiles → Status →
    Outside S O → Outside S O → Type 0
CompletesSoloOver d bundle_name record_name old answer before after =
    (b : Bundle) (p : Program) → IsBundleFile before.files.held bundle_name b → slice_get b.programs d ≡ Some p →
    NothingRose before after →
    WantsMemory answer before after
    ⊎ (((answer ≡ status.BadStore)
    × IsRefusedOver (spec.SoloOver d bundle_name record_name old) answer before after)
    ⊎ ((answer ≢ status.ReadFault)
    × HasSoloOver (spec.SoloOver d bundle_name record_name old) answer before after))

abbrev pub SoloOversAreComplete : (S O : Type 0) → Type 0
SoloOversAreComplete S O =
    (d : ℕ) (bundle_name record_name : List ℕ) (old : spec.OldFiles) (answer : Status) (before after : Outside S O) →
    before.files.reading < 2 ^ 64 - 1 →
    SoloOverAnswers (spec.SoloOver d bundle_name record_name old) before after answer →
    CompletesSoloOver d bundle_name record_name old answer before after
