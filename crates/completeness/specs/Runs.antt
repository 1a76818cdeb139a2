-- What `run` results in if no call on files or output fails.
use Rattle.std.specs.Prelude.{ℕ, ◌≡◌, ◌⊎◌, List, Result, Ok, Err}
use Rattle.cloak_base.specs.Random.{Random}
use Rattle.cloak_model.specs.declared.image.Bundle.{Bundle}
use Rattle.cloak_model.specs.Opening.{Lack, NoKey, NoPageDraw, NoRoom}
use Rattle.cloak_model.specs.Run.{Run, joint_run}
use Rattle.io_traits.specs.Told.{OtherFiles}
use Rattle.command_words.specs.Command as spec
use Rattle.command_parts.specs.declared.refusal.Refusal.{Refusal}
use Rattle.command_parts.specs.declared.refusal.Refusal.TheVariants as refusal
use Rattle.command_parts.specs.declared.status.Status.{Status}
use Rattle.command_parts.specs.Outside.{Outside, NothingRose}
use Rattle.command_parts.specs.Refusal.{refusal_line, status_of_refusal}
use Rattle.command_parts.specs.Streams.{IsToldStream}
use Rattle.run_command.specs.Answering.{RunAnswers}
use Rattle.run_command.specs.Recording.{IsWritten}
use Rattle.cloak_model.specs.Run.{NoClash}
use Rattle.completeness.specs.Asked.{IsBundleFile, OnlyLine, WantsMemory}

abbrev pub refusal_of_lack : Lack → Refusal
refusal_of_lack NoKey = refusal.NoKey
refusal_of_lack NoPageDraw = refusal.NoPageDraw
refusal_of_lack (NoRoom domain) = refusal.NoRoom domain

-- the opening lacks a draw, or room for a file: the line says which
pub record Lacks {S O : Type 0} (lack : Lack) (answer : Status) (before after : Outside S O) : Type 0 where
  pub status : answer ≡ status_of_refusal (refusal_of_lack lack)
  pub line : OnlyLine (refusal_line (refusal_of_lack lack)) before after

-- what the run results in, or why there is none
abbrev pub ComesTo : {S O : Type 0} → List ℕ → Result Run Lack → Status → Outside S O → Outside S O → Type 0
ComesTo record_name (Err lack) answer before after = Lacks lack answer before after
ComesTo record_name (Ok r) answer before after =
    OtherFiles record_name before.files.held after.files.held × (NoClash r → IsWritten r record_name answer before after)

-- If these words ask for the run of this bundle under this stream, and no call fails, it was made and written whole, or
-- there was no memory to begin with.
abbrev pub CompletesRun : {S O : Type 0} → (bundle_name record_name : List ℕ) → ℕ → spec.Randomness → Status →
    Outside S O → Outside S O → Type 0
CompletesRun bundle_name record_name steps randomness answer before after =
    (b : Bundle) (s : Random) →
    IsBundleFile before.files.held bundle_name b → IsToldStream before.files.held randomness s → NothingRose before after →
    WantsMemory answer before after ⊎ ComesTo record_name (joint_run b s steps) answer before after

abbrev pub RunsAreComplete : (S O : Type 0) → Type 0
RunsAreComplete S O =
    (bundle_name record_name : List ℕ) (steps : ℕ) (randomness : spec.Randomness) (answer : Status)
    (before after : Outside S O) → RunAnswers (spec.Run bundle_name record_name steps randomness) before after answer →
    CompletesRun bundle_name record_name steps randomness answer before after
