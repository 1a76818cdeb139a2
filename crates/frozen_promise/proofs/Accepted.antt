-- A state that was saved is accepted.
use Rattle.std.proofs.Common.{◌≡◌, ◌≤◌, ◌∙◌, ◌+◌, ℕ, List, length, Option, Ok, Result, refl, sym, ap, subst, inl, inr}
use Rattle.std.specs.Prelude.{IfSome}
use Rattle.sha2.specs.Sha256.{sha256}
use Rattle.cloak_base.specs.Random.{Random}
use Rattle.cloak_model.specs.declared.image.Bundle.{Bundle}
use Rattle.cloak_model.specs.Opening.{Lack}
use Rattle.cloak_model.specs.Run.{Run, joint_run, most_steps}
use Rattle.command_words.specs.Command as spec
use Rattle.frozen_commands.specs.FreezeAnswering.{HasFrozen, IfNoneClashed, IsSaved}
use Rattle.frozen_commands.specs.Freezing.{last_joint}
use Rattle.frozen_commands.specs.ThawAnswering.{ThawAnswers}
use Rattle.frozen_state.specs.FrozenState.{frozen_bytes}
use Rattle.frozen_state.specs.Ranges.{IsInRange}
use Rattle.frozen_state.specs.Thawing.{CanGoOn}
use Rattle.command_parts.specs.declared.refusal.Refusal.{Refusal}
use Rattle.command_parts.specs.declared.refusal.Refusal.TheVariants as refusal
use Rattle.command_parts.specs.declared.status.Status.{Status}
use Rattle.command_parts.specs.declared.status.Status.TheVariants as status
use Rattle.command_parts.specs.Freezing.{AsksFrozen}
use Rattle.command_parts.specs.NoRun.{IsRefused}
use Rattle.command_parts.specs.Outside.{Outside}
use Rattle.command_parts.specs.Refusal.{status_of_refusal}
use Rattle.command_parts.proofs.StreamFacts.{same_stream}
use Rattle.cloak_model.specs.Run.{NoClashYet}
use Rattle.frozen_promise.specs.Accepted.{FailedToRead, FailedToWrite, GoesOnUnlessFailed, HasGoneOn, IsFromOutside, LackedMemory, SavedStatesAreAccepted}
use Rattle.frozen_promise.specs.OneRun.{ShareFiles, TwoCommands}
use Rattle.frozen_promise.proofs.Refused.{Named, refused_outside, thaw_of}
use Rattle.frozen_promise.proofs.Sources.{one_image, steps_in}
use Rattle.frozen_commands.proofs.SameWords.{as_freeze}

-- What was saved is what is named.

-- the first part of a run is one
one_run : (b : Bundle) (stream : Random) (n : ℕ) (made other : Run) → joint_run b stream n ≡ Ok made →
    joint_run b stream n ≡ Ok other → made ≡ other
one_run b stream n made other first second =
    let same : ◌≡◌ {A = Result Run Lack} (Ok made) (Ok other) = sym first ∙ second in cc

named : {S O : Type 0} {version : ℕ} {b : Bundle} {stream : Random} (w : TwoCommands) (before mid later : Outside S O) →
    ShareFiles w version b stream before.files.held mid.files.held later.files.held →
    HasFrozen (spec.Freeze w.freeze w.first_steps w.first_randomness) before mid →
    w.first_steps + w.rest_steps ≤ most_steps → (made : Run) → joint_run b stream w.first_steps ≡ Ok made →
    NoClashYet (last_joint made) → Named later.files.held
named {S} {O} {version} {b} {stream} w before mid later share frozen few made runs none =
    let z = frozen.freezes in
    let first = as_freeze (λ names n from. AsksFrozen names from before.files.held z.sources
    × ((joint_run z.sources.bundle z.sources.stream n ≡ Ok z.made)
    × IfNoneClashed z.made (IsSaved names n z.sources z.made before mid))) w.freeze z.names w.first_steps z.steps
    w.first_randomness z.randomness z.freeze (z.asks, (z.joint, z.becomes)) in
    let image = one_image share.first_image share.is_image first.0.bundle in
    let from : z.sources.stream ≡ stream =
    same_stream before.files.held w.first_randomness stream z.sources.stream share.first_stream first.0.stream in
    let joint : joint_run b stream w.first_steps ≡ Ok z.made =
    subst (λ (c : Bundle). joint_run c stream w.first_steps ≡ Ok z.made) image.1
    (subst (λ (x : Random). joint_run z.sources.bundle x w.first_steps ≡ Ok z.made) from first.1.0) in
    let same : z.made ≡ made = one_run b stream w.first_steps z.made made joint runs in
    let saved : IsSaved w.freeze w.first_steps z.sources z.made before mid =
    first.1.1 (subst (λ (r : Run). NoClashYet (last_joint r)) (sym same) none) in
    let f = saved.state in
    let is = saved.is_state in
    let bytes : share.state ≡ frozen_bytes f (sha256 z.sources.bytes) =
    subst (λ (told : Option (List ℕ)). IfSome told (λ known. known ≡ frozen_bytes f (sha256 z.sources.bytes)))
    share.state_written saved.file in
    record {
      names = w.thaw;
      steps = w.rest_steps;
      randomness = w.rest_randomness;
      version = version;
      image = share.image;
      bundle = b;
      is_image = share.is_image;
      image_told = share.rest_image;
      stream = stream;
      stream_told = share.rest_stream;
      file = share.state;
      file_told = share.state_read;
      state = f;
      is = record {
        spelled = sym (bytes ∙ ap (λ (l : List ℕ). frozen_bytes f (sha256 l)) image.0);
        in_range = subst (λ (c : Bundle). IsInRange c.kernel (length c.programs) f) image.1 is.in_range;
      };
      shape = is.shape;
      few_recorded = is.few;
      joint = last_joint z.made;
      can_go_on = subst (λ (c : Bundle). CanGoOn c stream f (last_joint z.made)) image.1
          (subst (λ (x : Random). CanGoOn z.sources.bundle x f (last_joint z.made)) from is.can_go_on);
      few_steps = subst (λ (n : ℕ). n + w.rest_steps ≤ most_steps)
          (sym (steps_in (last_joint z.made) w.first_steps z.sources.vectors f is.is)) few;
    }

-- The answers.

-- a line that refuses
refused : {S O : Type 0} {later after : Outside S O} {given : Status} (n : Named later.files.held) →
    IsRefused (thaw_of n) given later after → GoesOnUnlessFailed (thaw_of n) given later after
refused {S} {O} {later} {after} {given} n refuses =
    by_reason refuses.refused refuses.status
    (refused_outside later.files after.files n refuses.refused refuses.no_run.cause)
  where
    by_reason : (r : Refusal) → given ≡ status_of_refusal r → IsFromOutside r →
        GoesOnUnlessFailed (thaw_of n) given later after
    by_reason (refusal.Usage fault) is outside = absurd outside
    by_reason (refusal.BadBundle fault) is outside = absurd outside
    by_reason refusal.ReadFault is outside = FailedToRead is
    by_reason refusal.NoMemory is outside = LackedMemory is
    by_reason refusal.NoKey is outside = absurd outside
    by_reason refusal.NoPageDraw is outside = absurd outside
    by_reason refusal.NoSuchDomain is outside = absurd outside
    by_reason refusal.ShortSecret is outside = absurd outside
    by_reason (refusal.BadStore fault) is outside = absurd outside
    by_reason (refusal.NoRoom d) is outside = absurd outside
    by_reason (refusal.BadState fault) is outside = absurd outside
    by_reason (refusal.ChangedDomain d) is outside = absurd outside
    by_reason (refusal.ChangedFrame d) is outside = absurd outside

answered : {S O : Type 0} {later after : Outside S O} (n : Named later.files.held) (given : Status) →
    ThawAnswers (thaw_of n) later after given → GoesOnUnlessFailed (thaw_of n) given later after
answered {S} {O} {later} {after} n status.Done answers = HasGoneOn answers
answered {S} {O} {later} {after} n status.Violation answers = HasGoneOn answers
answered {S} {O} {later} {after} n status.Usage answers = refused n answers
answered {S} {O} {later} {after} n status.BadBundle answers = refused n answers
answered {S} {O} {later} {after} n status.ReadFault answers = FailedToRead refl
answered {S} {O} {later} {after} n status.WriteFault (inl line) =
    FailedToWrite refl (inr (line, refused_outside later.files after.files n line.refused line.no_run.cause))
answered {S} {O} {later} {after} n status.WriteFault (inr broke_off) = FailedToWrite refl (inl broke_off)
answered {S} {O} {later} {after} n status.NoMemory answers = LackedMemory refl
answered {S} {O} {later} {after} n status.NoRandom (inl answers) = refused n answers
answered {S} {O} {later} {after} n status.NoRandom (inr answers) = HasGoneOn answers
answered {S} {O} {later} {after} n status.BadRecord answers = absurd answers
answered {S} {O} {later} {after} n status.BadStore answers = refused n answers
answered {S} {O} {later} {after} n status.Frozen answers = absurd answers
answered {S} {O} {later} {after} n status.BadState answers = refused n answers

pub saved_states_are_accepted : (S O : Type 0) → SavedStatesAreAccepted S O
unfolding named
saved_states_are_accepted S O w version b stream before mid later after given share frozen few made runs none answers =
    answered (named w before mid later share frozen few made runs none) given answers
