-- The state that `freeze` saved is accepted by `thaw`.
use Rattle.std.specs.Prelude.{ℕ, ◌≡◌, ◌≤◌, ◌⊎◌, ◌+◌, Ok}
use Rattle.cloak_base.specs.Random.{Random}
use Rattle.cloak_model.specs.declared.image.Bundle.{Bundle}
use Rattle.cloak_model.specs.Run.{Run, joint_run, most_steps}
use Rattle.command_words.specs.Command as spec
use Rattle.frozen_commands.specs.FreezeAnswering.{HasFrozen}
use Rattle.frozen_commands.specs.Freezing.{last_joint}
use Rattle.frozen_commands.specs.ThawAnswering.{HasThawed, ThawAnswers, ThawingBrokeOff}
use Rattle.command_parts.specs.declared.refusal.Refusal.{Refusal}
use Rattle.command_parts.specs.declared.refusal.Refusal.TheVariants as refusal
use Rattle.command_parts.specs.declared.status.Status.{Status}
use Rattle.command_parts.specs.declared.status.Status.TheVariants as status
use Rattle.command_parts.specs.NoRun.{LineFailed}
use Rattle.command_parts.specs.Outside.{Outside}
use Rattle.cloak_model.specs.Run.{NoClashYet}
use Rattle.frozen_promise.specs.OneRun.{ShareFiles, TwoCommands}

-- a reason to refuse that lies outside: a file cannot be read, or there is not enough memory
abbrev pub IsFromOutside : Refusal → Type 0
IsFromOutside refusal.ReadFault = Unit {0}
IsFromOutside refusal.NoMemory = Unit {0}
IsFromOutside other = ⊥

-- Writing failed: as the rest of the run was made, or as the line of such a reason was shown.
abbrev pub FailsToWrite : {S O : Type 0} → spec.Asked → Outside S O → Outside S O → Type 0
FailsToWrite asked before after =
    ThawingBrokeOff asked before after ⊎ ((line : LineFailed asked before after) × IsFromOutside line.refused)

-- `thaw` made the rest of the run, unless it failed to read or to write, or lacked memory. There is no other answer, so
-- no test refused the state.
pub data GoesOnUnlessFailed {S O : Type 0} (asked : spec.Asked) (given : Status) (before after : Outside S O) :
    Type 0 where
  HasGoneOn : HasThawed asked given before after → GoesOnUnlessFailed asked given before after
  FailedToRead : given ≡ status.ReadFault → GoesOnUnlessFailed asked given before after
  FailedToWrite : given ≡ status.WriteFault → FailsToWrite asked before after →
      GoesOnUnlessFailed asked given before after
  LackedMemory : given ≡ status.NoMemory → GoesOnUnlessFailed asked given before after

-- The law. `freeze` answered Frozen, and no two different pages that its steps compared had one digest. `thaw` reads
-- the same image, the same stream and the state that was saved, and both together make no more steps than a run may
-- have. Then it goes on.
abbrev pub SavedStatesAreAccepted : (S O : Type 0) → Type 0
SavedStatesAreAccepted S O =
    (w : TwoCommands) (version : ℕ) (b : Bundle) (stream : Random) (before mid later after : Outside S O) (given : Status) →
    ShareFiles w version b stream before.files.held mid.files.held later.files.held →
    HasFrozen (spec.Freeze w.freeze w.first_steps w.first_randomness) before mid →
    w.first_steps + w.rest_steps ≤ most_steps →
    (made : Run) → joint_run b stream w.first_steps ≡ Ok made → NoClashYet (last_joint made) →
    let thaw = spec.Thaw w.thaw w.rest_steps w.rest_randomness in
    ThawAnswers thaw later after given → GoesOnUnlessFailed thaw given later after
