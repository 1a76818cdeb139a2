-- What the words of `thaw` ask for: the image, its frozen state, and the random stream; and why no run goes on from them.
use Rattle.std.specs.Prelude.{ℕ, ◌≡◌, ◌≤◌, ◌<◌, ◌+◌, List, length, nat_lt, Option, IfSome, Some, if◌then◌else◌}
use Rattle.sha2.specs.Sha256.{sha256}
use Rattle.cloak_base.specs.Random.{Random}
use Rattle.cloak_model.specs.declared.image.Bundle.{Bundle}
use Rattle.cloak_model.specs.Run.{most_steps}
use Rattle.command_words.specs.declared.usage_fault.UsageFault.{UsageFault}
use Rattle.command_words.specs.declared.usage_fault.UsageFault.TheVariants.{WrongNumber}
use Rattle.command_words.specs.Command as spec
use Rattle.frozen_run.specs.Shapes.{HasShape}
use Rattle.frozen_state.specs.declared.fault.FrozenFault.{FrozenFault}
use Rattle.frozen_state.specs.declared.fault.FrozenFault.TheVariants.{Form}
use Rattle.frozen_state.specs.declared.frozen.Frozen.{Frozen}
use Rattle.frozen_state.specs.FrozenFault.{frozen_fault}
use Rattle.frozen_state.specs.Ranges.{IsFrozen, IsInRange}
use Rattle.command_parts.specs.Bundles.{IsInFileAs}
use Rattle.command_parts.specs.Outside.{FilesOutside}
use Rattle.command_parts.specs.Streams.{IsStream}

-- The file of a frozen state.

-- the most bytes that it has
abbrev pub largest_state : ℕ
largest_state = 67108864

-- the first fault of a file that is no frozen state of the image with this digest: a file that is too large is read no
-- further
abbrev pub state_fault : Bundle → (digest : List ℕ) → List ℕ → Option FrozenFault
state_fault b digest file =
    if nat_lt largest_state (length file) then Some (Form largest_state)
    else frozen_fault digest b.kernel (length b.programs) file

-- This file spells the state, and no other.
pub record SpellsState (b : Bundle) (digest : List ℕ) (f : Frozen) (file : List ℕ) : Type 0 where
  pub few : length file ≤ largest_state
  pub is : IsFrozen b.kernel (length b.programs) digest file f
  pub only : (other : Frozen) → HasShape other → IsFrozen b.kernel (length b.programs) digest file other → f ≡ other

-- What a run that goes on takes from the files that the words name.
pub record ThawSources : Type 0 where
  pub version : ℕ
  pub bytes : List ℕ
  pub bundle : Bundle
  pub state : Frozen
  pub stream : Random

-- The words ask for the rest of a run of this bundle from this state.
pub record AsksThawed (names : spec.ThawNames) (randomness : spec.Randomness) (held : List ℕ → Option (List ℕ))
    (s : ThawSources) : Type 0 where
  pub bundle : IsInFileAs s.version (held names.bundle) s.bytes s.bundle
  pub state : IfSome (held names.state_name) (SpellsState s.bundle (sha256 s.bytes) s.state)
  pub in_range : IsInRange s.bundle.kernel (length s.bundle.programs) s.state
  pub stream : IsStream held randomness s.stream

-- Why there is no run.

-- The file is no frozen state of the image: if its bytes are told, this is its first fault.
pub record IsBadState {S : Type 0} (asked : spec.Asked) (fault : FrozenFault) (before after : FilesOutside S) : Type 0 where
  pub names : spec.ThawNames
  pub steps : ℕ
  pub randomness : spec.Randomness
  pub thaw : asked ≡ spec.Thaw names steps randomness
  pub version : ℕ
  pub bytes : List ℕ
  pub bundle : Bundle
  pub file : IsInFileAs version (before.held names.bundle) bytes bundle
  pub first_fault : IfSome (before.held names.state_name) (λ state. state_fault bundle (sha256 bytes) state ≡ Some fault)
  pub reading : after.reading ≡ before.reading

-- The number of steps is wrong: with those that were made before, the run would have more than a run may have.
pub record IsTooLong {S : Type 0} (asked : spec.Asked) (fault : UsageFault) (before after : FilesOutside S) : Type 0 where
  pub number : fault ≡ WrongNumber
  pub names : spec.ThawNames
  pub steps : ℕ
  pub randomness : spec.Randomness
  pub thaw : asked ≡ spec.Thaw names steps randomness
  pub sources : ThawSources
  pub asks : AsksThawed names randomness before.held sources
  pub too_long : most_steps < sources.state.steps + steps
  pub reading : after.reading ≡ before.reading

-- The state is one of the image, and a later test fails for this cause: keys, draws, pages.
pub record IsUnthawed {S : Type 0} (asked : spec.Asked) (Cause : Bundle → Random → Frozen → Type 0)
    (before after : FilesOutside S) : Type 0 where
  pub names : spec.ThawNames
  pub steps : ℕ
  pub randomness : spec.Randomness
  pub thaw : asked ≡ spec.Thaw names steps randomness
  pub sources : ThawSources
  pub asks : AsksThawed names randomness before.held sources
  pub few : sources.state.steps + steps ≤ most_steps
  pub cause : Cause sources.bundle sources.stream sources.state
  pub reading : after.reading ≡ before.reading
