-- The rest of a run, from its frozen state.
use Rattle.std.specs.Prelude.{ℕ, ◌≡◌, ◌≤◌, ◌+◌, Bool, true, false, List, length, take, is_none, Option, IfSome, Some, Result, Ok, Err}
use Rattle.sha2.specs.Sha256.{sha256}
use Rattle.cloak_base.specs.Random.{Random}
use Rattle.cloak_model.specs.declared.image.Bundle.{Bundle}
use Rattle.cloak_model.specs.Exchange.{Piece, Emits}
use Rattle.cloak_model.specs.Run.{Run, most_steps}
use Rattle.cloak_machine.specs.Standing.{steps_made}
use Rattle.cloak_machine.specs.Thawing.{ThawsMachine}
use Rattle.cloak_machine.specs.declared.machine.Machine.{Machine}
use Rattle.command_words.specs.Command as spec
use Rattle.frozen_run.specs.Shapes.{HasShape}
use Rattle.frozen_state.specs.declared.frozen.Frozen.{Frozen}
use Rattle.frozen_state.specs.Continuing.{due_after}
use Rattle.frozen_state.specs.Ranges.{IsFrozen, IsInRange}
use Rattle.range_law.specs.Writing.{IsOfBytes, IsStreamOfBytes}
use Rattle.joint_machine.specs.declared.thaw_fault.ThawFault.{ThawFault}
use Rattle.joint_machine.specs.declared.thaw_fault.ThawFault.TheVariants as fault
use Rattle.frozen_state.specs.declared.fault.FrozenFault.TheVariants.{Form}
use Rattle.command_parts.specs.declared.refusal.Refusal.{Refusal}
use Rattle.command_parts.specs.declared.refusal.Refusal.TheVariants as refusal
use Rattle.command_parts.specs.declared.status.Status.{Status}
use Rattle.command_parts.specs.Files.{ReadsFile}
use Rattle.command_parts.specs.NoRun.{NoRun}
use Rattle.command_parts.specs.Outside.{FilesOutside, OnlyRead, Outside}
use Rattle.command_parts.specs.Thawing.{AsksThawed, SpellsState, ThawSources, largest_state, state_fault}
use Rattle.run_command.specs.Outlet.{Writes}
use Rattle.run_command.specs.Running.{IsStatusOfStop, run_status}

-- Reading.

-- The first bytes of the file of a state, one more than it may have, were read.
pub record IsStateFront (told : Option (List ℕ)) (bytes : List ℕ) : Type 0 where
  pub few : length bytes ≤ largest_state + 1
  pub front : IfSome told (λ file. bytes ≡ take (largest_state + 1) file)

-- a state of the image that the bytes spell, and no other; or the first fault of the bytes
abbrev pub JudgesState : Bundle → List ℕ → List ℕ → Result Frozen Refusal → Type 0
JudgesState b digest bytes (Ok f) = SpellsState b digest f bytes
JudgesState b digest bytes (Err (refusal.BadState fault)) = state_fault b digest bytes ≡ Some fault
JudgesState b digest bytes (Err refusal.NoMemory) = Unit {0}
JudgesState b digest bytes (Err other) = ⊥

-- why no machine goes on from a state
abbrev pub refused_by : ThawFault → Refusal
refused_by fault.NoKey = refusal.NoKey
refused_by fault.NoRandom = refusal.NoPageDraw
refused_by (fault.Domain domain) = refusal.ChangedDomain domain
refused_by (fault.Frame frame) = refusal.ChangedFrame frame
refused_by (fault.Form at) = refusal.BadState (Form at)
refused_by fault.NoMemory = refusal.NoMemory

-- The words ask for the rest of a run from these sources, the machine is the one that goes on from the state, and not more
-- steps are asked for than a run may have. Image and stream are of bytes.
pub record IsThawed (names : spec.ThawNames) (steps : ℕ) (randomness : spec.Randomness)
    (held : List ℕ → Option (List ℕ)) (machine : Machine) : Type 0 where
  pub sources : ThawSources
  pub asks : AsksThawed names randomness held sources
  pub few : sources.state.steps + steps ≤ most_steps
  pub thaws : ThawsMachine sources.bundle sources.stream sources.state machine
  pub steps_are : steps_made machine ≡ sources.state.steps
  pub image_bytes : IsOfBytes sources.bundle
  pub stream_bytes : IsStreamOfBytes sources.stream

-- a run that can go on, or why there is none; the files were at most read
abbrev pub PreparesThawed : {S : Type 0} → spec.ThawNames → ℕ → spec.Randomness → FilesOutside S → FilesOutside S →
    Result Machine Refusal → Type 0
PreparesThawed names steps randomness before after (Ok machine) =
    OnlyRead before after × IsThawed names steps randomness before.held machine
PreparesThawed names steps randomness before after (Err refused) =
    NoRun (spec.Thaw names steps randomness) refused before after

-- The rest.

-- what is due of a run after this many steps was given, and the answer is its status unless the outlet failed
pub record WritesRest {E : Type 0} (gave : E → E → List Piece → Type 0) (failed : Bool) (e e' : E) (given : Status)
    (steps : ℕ) (r : Run) : Type 0 where
  pub emits : Emits gave e e' (due_after steps r)
  pub status : failed ≡ false → given ≡ run_status r

-- some pieces were written, or a front of them if there is no answer
abbrev pub WritesSomeRest : {S O : Type 0} → List ℕ → Option Status → Outside S O → Outside S O → Type 0
WritesSomeRest name given before after = (pieces : List Piece) × Writes (is_none given) name before after pieces

-- an answer is the status of some run
abbrev pub RestAnswers : Option Status → Type 0
RestAnswers given = IfSome given IsStatusOfStop

-- what is due was written, and the answer is the run's status; or a front of it, if there is no answer
pub record RecordsRest {S O : Type 0} (name : List ℕ) (before after : Outside S O) (given : Option Status) (steps : ℕ)
    (r : Run) : Type 0 where
  pub writes : Writes (is_none given) name before after (due_after steps r)
  pub status : IfSome given (λ answer. answer ≡ run_status r)
