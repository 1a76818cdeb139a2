-- Why no run is frozen, and why none goes on.
use Rattle.std.proofs.Common.{◌≡◌, ◌<◌, ◌≤◌, ◌+◌, ℕ, List, Option, Err, refl, subst, inl, inr}
use Rattle.sha2.specs.Sha256.{sha256}
use Rattle.io_traits.specs.Told.{SameFiles}
use Rattle.cloak_base.specs.Random.{Random}
use Rattle.cloak_model.specs.declared.image.Bundle.{Bundle}
use Rattle.cloak_model.specs.Opening.{Lack, opening}
use Rattle.cloak_model.specs.Run.{most_steps}
use Rattle.command_words.specs.declared.usage_fault.UsageFault.TheVariants.{WrongNumber}
use Rattle.command_words.specs.Command as spec
use Rattle.frozen_state.specs.declared.frozen.Frozen.{Frozen}
use Rattle.joint_machine.specs.declared.thaw_fault.ThawFault.{ThawFault}
use Rattle.joint_machine.specs.declared.thaw_fault.ThawFault.TheVariants as fault
use Rattle.joint_machine.specs.Thawing.{IsThawFault}
use Rattle.command_parts.specs.declared.refusal.Refusal.{Refusal}
use Rattle.command_parts.specs.declared.refusal.Refusal.TheVariants as refusal
use Rattle.command_parts.specs.Bundles.{IsInFileAs}
use Rattle.command_parts.specs.Freezing.{AsksFrozen, FreezeSources, IsFreezeLack}
use Rattle.command_parts.specs.NoRun.{NoRun}
use Rattle.command_parts.specs.Outside.{FilesOutside}
use Rattle.command_parts.specs.Streams.{IsStream}
use Rattle.command_parts.specs.Thawing.{AsksThawed, SpellsState, ThawSources}
use Rattle.run_command.proofs.PrepareFacts.{stream_before}
use Rattle.frozen_commands.specs.Thawing.{IsStateFront, JudgesState, refused_by}
use Rattle.frozen_commands.proofs.JudgedFacts.{front_fault, front_spells}
use Rattle.command_parts.proofs.Refused.{no_memory}

-- A run that is frozen.

-- What the words ask for, by what was read of the files one after another.
pub asks_frozen : {names : spec.FreezeNames} {randomness : spec.Randomness}
    {held second third : List ℕ → Option (List ℕ)} {version : ℕ} {bytes : List ℕ} {bundle : Bundle}
    {stream vectors : Random} → IsInFileAs version (held names.bundle) bytes bundle → SameFiles held second →
    IsStream second randomness stream → SameFiles held third →
    IsStream third (spec.FromFile names.vectors_name) vectors →
    AsksFrozen names randomness held (record {
      version = version;
      bytes = bytes;
      bundle = bundle;
      stream = stream;
      vectors = vectors;
    })
asks_frozen {names} {randomness} {held} {second} {third} {version} {bytes} {bundle} {stream} {vectors}
    file same2 source same3 vector_file = record {
      bundle = file;
      stream = stream_before held second randomness stream same2 source;
      vectors = stream_before held third (spec.FromFile names.vectors_name) vectors same3 vector_file;
    }

-- its opening finds too few random bytes
pub is_lack : {S : Type 0} {names : spec.FreezeNames} {steps : ℕ} {randomness : spec.Randomness} {lack : Lack}
    {before after : FilesOutside S} (s : FreezeSources) → AsksFrozen names randomness before.held s →
    opening s.bundle s.stream ≡ Err lack → after.reading ≡ before.reading →
    IsFreezeLack (spec.Freeze names steps randomness) lack before after
is_lack {S} {names} {steps} {randomness} {lack} {before} {after} s asks lacks reading = record {
  names = names;
  steps = steps;
  randomness = randomness;
  freeze = refl;
  sources = s;
  asks = asks;
  lacks = lacks;
  reading = reading;
}

-- A run that goes on.

-- What the words ask for, likewise.
pub asks_thawed : {names : spec.ThawNames} {randomness : spec.Randomness}
    {held second third : List ℕ → Option (List ℕ)} {version : ℕ} {bytes front : List ℕ} {bundle : Bundle}
    {state : Frozen} {stream : Random} → IsInFileAs version (held names.bundle) bytes bundle → SameFiles held second →
    IsStateFront (second names.state_name) front → SpellsState bundle (sha256 bytes) state front →
    SameFiles held third → IsStream third randomness stream →
    AsksThawed names randomness held (record {
      version = version;
      bytes = bytes;
      bundle = bundle;
      state = state;
      stream = stream;
    })
asks_thawed {names} {randomness} {held} {second} {third} {version} {bytes} {front} {bundle} {state} {stream}
    file same2 read is same3 source = record {
      bundle = file;
      state = front_spells (held names.state_name) bundle (sha256 bytes) front state
          (subst (λ (told : Option (List ℕ)). IsStateFront told front) (same2 names.state_name) read) is;
      in_range = is.is.in_range;
      stream = stream_before held third randomness stream same3 source;
    }

-- the file is no state of the image
pub no_state : {S : Type 0} (names : spec.ThawNames) (steps : ℕ) (randomness : spec.Randomness) (r : Refusal)
    (before after : FilesOutside S) (version : ℕ) (bytes front : List ℕ) (bundle : Bundle) →
    IsInFileAs version (before.held names.bundle) bytes bundle →
    IsStateFront (before.held names.state_name) front → JudgesState bundle (sha256 bytes) front (Err r) →
    after.reading ≡ before.reading → SameFiles before.held after.held → after.writing ≡ before.writing →
    NoRun (spec.Thaw names steps randomness) r before after
no_state {S} names steps randomness (refusal.BadState fault) before after version bytes front bundle file read judged reading held writing =
    record {
      cause = inl (record {
        names = names;
        steps = steps;
        randomness = randomness;
        thaw = refl;
        version = version;
        bytes = bytes;
        bundle = bundle;
        file = file;
        first_fault = front_fault (before.held names.state_name) bundle (sha256 bytes) front fault read judged;
        reading = reading;
      });
      held = held;
      writing = writing;
    }
no_state {S} names steps randomness refusal.NoMemory before after version bytes front bundle file read judged reading held writing =
    no_memory _ before after reading held writing
no_state {S} names steps randomness _ before after version bytes front bundle file read judged reading held writing = absurd judged

-- more steps are asked for than are left
pub too_many : {S : Type 0} (names : spec.ThawNames) (steps : ℕ) (randomness : spec.Randomness)
    (before after : FilesOutside S) (s : ThawSources) → AsksThawed names randomness before.held s →
    most_steps < s.state.steps + steps → after.reading ≡ before.reading → SameFiles before.held after.held →
    after.writing ≡ before.writing → NoRun (spec.Thaw names steps randomness) (refusal.Usage WrongNumber) before after
too_many {S} names steps randomness before after s asks too_long reading held writing = record {
  cause = inr (record {
    number = refl;
    names = names;
    steps = steps;
    randomness = randomness;
    thaw = refl;
    sources = s;
    asks = asks;
    too_long = too_long;
    reading = reading;
  });
  held = held;
  writing = writing;
}

-- no machine goes on from the state
pub not_thawed : {S : Type 0} (names : spec.ThawNames) (steps : ℕ) (randomness : spec.Randomness) (f : ThawFault)
    (before after : FilesOutside S) (s : ThawSources) → AsksThawed names randomness before.held s →
    s.state.steps + steps ≤ most_steps → IsThawFault s.bundle s.stream s.state f → after.reading ≡ before.reading →
    SameFiles before.held after.held → after.writing ≡ before.writing →
    NoRun (spec.Thaw names steps randomness) (refused_by f) before after
not_thawed {S} names steps randomness fault.NoKey before after s asks few cause reading held writing = record {
  cause = inr (inr (record {
    names = names;
    steps = steps;
    randomness = randomness;
    thaw = refl;
    sources = s;
    asks = asks;
    few = few;
    cause = cause;
    reading = reading;
  }));
  held = held;
  writing = writing;
}
not_thawed {S} names steps randomness fault.NoRandom before after s asks few cause reading held writing = record {
  cause = inr (inr (inr (record {
    names = names;
    steps = steps;
    randomness = randomness;
    thaw = refl;
    sources = s;
    asks = asks;
    few = few;
    cause = cause;
    reading = reading;
  })));
  held = held;
  writing = writing;
}
not_thawed {S} names steps randomness (fault.Form at) before after s asks few cause reading held writing = record {
  cause = inr (record {
    names = names;
    steps = steps;
    randomness = randomness;
    thaw = refl;
    sources = s;
    asks = asks;
    few = few;
    cause = (at, refl, cause);
    reading = reading;
  });
  held = held;
  writing = writing;
}
not_thawed {S} names steps randomness fault.NoMemory before after s asks few cause reading held writing =
    no_memory _ before after reading held writing
not_thawed {S} names steps randomness _ before after s asks few cause reading held writing = record {
  cause = record {
    names = names;
    steps = steps;
    randomness = randomness;
    thaw = refl;
    sources = s;
    asks = asks;
    few = few;
    cause = cause;
    reading = reading;
  };
  held = held;
  writing = writing;
}
