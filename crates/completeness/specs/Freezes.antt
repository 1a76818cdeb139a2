-- What `freeze` results in if no call on files or output fails.
use Rattle.std.specs.Prelude.{ℕ, ◌≡◌, ◌⊎◌, List, Option, Some, Result, Ok, Err}
use Rattle.cloak_model.specs.Bundle.{IsBundleIn}
use Rattle.cloak_model.specs.Opening.{Lack}
use Rattle.cloak_model.specs.Run.{Run, joint_run}
use Rattle.command_words.specs.Command as spec
use Rattle.frozen_commands.specs.FreezeAnswering.{FreezeAnswers, HasStopped, IfNoneClashed, IsSaved, LacksVectors}
use Rattle.command_parts.specs.declared.status.Status.{Status}
use Rattle.command_parts.specs.declared.status.Status.TheVariants as status
use Rattle.command_parts.specs.Freezing.{FreezeSources}
use Rattle.command_parts.specs.Outside.{Outside, NothingRose}
use Rattle.command_parts.specs.Streams.{IsToldStream}
use Rattle.completeness.specs.Asked.{WantsMemory}
use Rattle.completeness.specs.Runs.{Lacks}

-- The files tell these bytes: a bundle, and the streams of the run and of the vectors.
pub record AreToldFrozen (names : spec.FreezeNames) (randomness : spec.Randomness) (held : List ℕ → Option (List ℕ))
    (s : FreezeSources) : Type 0 where
  pub bundle : held names.bundle ≡ Some s.bytes
  pub is_bundle : IsBundleIn s.version s.bytes s.bundle
  pub stream : IsToldStream held randomness s.stream
  pub vectors : IsToldStream held (spec.FromFile names.vectors_name) s.vectors

-- It was frozen; or one of its steps stopped it; or the vectors are too few. The status says which.
abbrev pub EndsFrozen : {S O : Type 0} → spec.FreezeNames → ℕ → FreezeSources → Run → Status → Outside S O → Outside S O →
    Type 0
EndsFrozen names steps s r answer before after =
    ((answer ≡ status.Frozen) × IsSaved names steps s r before after)
    ⊎ (HasStopped names r answer before after
    ⊎ ((answer ≡ status.NoRandom) × LacksVectors names steps s r before after))

-- what the run results in, or why there is none
abbrev pub ComesToFrozen : {S O : Type 0} → spec.FreezeNames → ℕ → FreezeSources → Result Run Lack → Status →
    Outside S O → Outside S O → Type 0
ComesToFrozen names steps s (Err lack) answer before after = Lacks lack answer before after
ComesToFrozen names steps s (Ok r) answer before after =
    IfNoneClashed r (EndsFrozen names steps s r answer before after)

-- If these words ask for a run of what the files tell, and no call fails, its steps were made, and all that is due of them
-- was written, and of their state; or there was no memory to begin with.
abbrev pub CompletesFreeze : {S O : Type 0} → spec.FreezeNames → (steps : ℕ) → spec.Randomness → Status → Outside S O →
    Outside S O → Type 0
CompletesFreeze names steps randomness answer before after =
    (s : FreezeSources) → AreToldFrozen names randomness before.files.held s → NothingRose before after →
    WantsMemory answer before after
    ⊎ ComesToFrozen names steps s (joint_run s.bundle s.stream steps) answer before after

abbrev pub FreezesAreComplete : (S O : Type 0) → Type 0
FreezesAreComplete S O =
    (names : spec.FreezeNames) (steps : ℕ) (randomness : spec.Randomness) (answer : Status) (before after : Outside S O) →
    FreezeAnswers (spec.Freeze names steps randomness) before after answer →
    CompletesFreeze names steps randomness answer before after
