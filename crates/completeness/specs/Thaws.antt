-- What `thaw` results in if no call on files or output fails.
use Rattle.std.specs.Prelude.{ℕ, ◌≡◌, ◌≤◌, ◌<◌, ◌+◌, ◌⊎◌, List, length, Option, Some}
use Rattle.sha2.specs.Sha256.{sha256}
use Rattle.io_traits.specs.Told.{OtherFiles}
use Rattle.cloak_model.specs.Bundle.{IsBundleIn}
use Rattle.cloak_model.specs.Run.{most_steps}
use Rattle.command_words.specs.declared.usage_fault.UsageFault.TheVariants.{WrongNumber}
use Rattle.command_words.specs.Command as spec
use Rattle.frozen_commands.specs.ThawAnswering.{IsWrittenAfter, OfEachRest, PassesTests, ThawAnswers}
use Rattle.frozen_run.specs.Shapes.{HasShape}
use Rattle.frozen_state.specs.declared.fault.FrozenFault.TheVariants as state
use Rattle.frozen_state.specs.Ranges.{IsFrozen}
use Rattle.frozen_state.specs.Refusing.{HasChangedDomain, HasChangedFrame, HasWrongPage, LacksDraws, LacksKeys}
use Rattle.command_parts.specs.declared.refusal.Refusal.{Refusal}
use Rattle.command_parts.specs.declared.refusal.Refusal.TheVariants as refusal
use Rattle.command_parts.specs.declared.status.Status.{Status}
use Rattle.command_parts.specs.declared.status.Status.TheVariants as status
use Rattle.command_parts.specs.Outside.{Outside, NothingRose}
use Rattle.command_parts.specs.Refusal.{refusal_line, status_of_refusal}
use Rattle.command_parts.specs.Streams.{IsToldStream}
use Rattle.command_parts.specs.Thawing.{ThawSources, largest_state}
use Rattle.completeness.specs.Asked.{OnlyLine, WantsMemory}

-- The files tell these bytes, and all of them are right: a bundle, the file of a state of it, and the stream.
pub record AreToldThawed (names : spec.ThawNames) (randomness : spec.Randomness) (held : List ℕ → Option (List ℕ))
    (s : ThawSources) : Type 0 where
  pub bundle : held names.bundle ≡ Some s.bytes
  pub is_bundle : IsBundleIn s.version s.bytes s.bundle
  pub file : List ℕ
  pub state : held names.state_name ≡ Some file
  pub few : length file ≤ largest_state
  pub spelled : IsFrozen s.bundle.kernel (length s.bundle.programs) (sha256 s.bytes) file s.state
  pub shape : HasShape s.state
  pub stream : IsToldStream held randomness s.stream

-- the reason why no run goes on from the state
abbrev pub IsUnfit : ThawSources → Refusal → Type 0
IsUnfit s refusal.NoKey = LacksKeys s.bundle s.stream
IsUnfit s refusal.NoPageDraw = LacksDraws s.bundle s.stream s.state
IsUnfit s (refusal.ChangedDomain d) = HasChangedDomain s.bundle s.stream s.state d
IsUnfit s (refusal.ChangedFrame n) = HasChangedFrame s.bundle s.stream s.state n
IsUnfit s (refusal.BadState (state.Form at)) = HasWrongPage s.bundle s.stream s.state at
IsUnfit s other = ⊥

-- More steps are asked for than a run may have; or the state fails a later test, and the line says which; or it passes all of
-- them, and what is due of the rest was written.
pub data ComesToThawed {S O : Type 0} (names : spec.ThawNames) (steps : ℕ) (s : ThawSources) (answer : Status)
    (before after : Outside S O) : Type 0 where
  TooLong : most_steps < s.state.steps + steps → answer ≡ status.Usage →
      OnlyLine (refusal_line (refusal.Usage WrongNumber)) before after → ComesToThawed names steps s answer before after
  Unfit : (r : Refusal) → s.state.steps + steps ≤ most_steps → IsUnfit s r → answer ≡ status_of_refusal r →
      OnlyLine (refusal_line r) before after → ComesToThawed names steps s answer before after
  Thawed : s.state.steps + steps ≤ most_steps → PassesTests s →
      OfEachRest s steps (λ r. IsWrittenAfter s.state.steps r names.record_name answer before after) →
      OtherFiles names.record_name before.files.held after.files.held → ComesToThawed names steps s answer before after

-- If these words ask for the rest of a run from what the files tell, and no call fails, that is the result; or there
-- was no memory to begin with.
abbrev pub CompletesThaw : {S O : Type 0} → spec.ThawNames → (steps : ℕ) → spec.Randomness → Status → Outside S O →
    Outside S O → Type 0
CompletesThaw names steps randomness answer before after =
    (s : ThawSources) → AreToldThawed names randomness before.files.held s → NothingRose before after →
    WantsMemory answer before after ⊎ ComesToThawed names steps s answer before after

abbrev pub ThawsAreComplete : (S O : Type 0) → Type 0
ThawsAreComplete S O =
    (names : spec.ThawNames) (steps : ℕ) (randomness : spec.Randomness) (answer : Status) (before after : Outside S O) →
    ThawAnswers (spec.Thaw names steps randomness) before after answer →
    CompletesThaw names steps randomness answer before after
