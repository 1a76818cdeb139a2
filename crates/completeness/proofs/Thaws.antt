-- Of the causes of what `thaw` returns, those of faults do not occur if no count rose and what the files tell is one
-- state of one image. A file that spells it has no fault.
use Rattle.std.proofs.Common.{◌≡◌, ◌∙◌, ◌⊎◌, ◌+◌, ◌<◌, ◌≤◌, ℕ, Bool, cond, List, length, Option, Some, None, sym, ap, subst, inl, inr}
use Rattle.std.specs.Prelude.{IfSome}
use Rattle.std.proofs.lemmas.Bool.{le-ltb}
use Rattle.sha2.proofs.Facts256.{length-sha256}
use Rattle.sha2.specs.Sha256.{sha256}
use Rattle.cloak_base.specs.Random.{Random}
use Rattle.cloak_model.specs.declared.image.Bundle.{Bundle}
use Rattle.cloak_model.specs.BundleFault.{bundle_fault}
use Rattle.cloak_model.specs.Run.{most_steps}
use Rattle.command_words.specs.declared.usage_fault.UsageFault.{UsageFault}
use Rattle.command_words.specs.Command as spec
use Rattle.frozen_commands.specs.ThawAnswering.{HasThawed, IsWrittenAfter, OfEachRest, PassesTests, ThawingBrokeOff}
use Rattle.frozen_run.proofs.Laws.{has_fault_or_state}
use Rattle.frozen_state.specs.declared.fault.FrozenFault.{FrozenFault}
use Rattle.frozen_state.specs.declared.fault.FrozenFault.TheVariants.{Form}
use Rattle.frozen_state.specs.declared.frozen.Frozen.{Frozen}
use Rattle.frozen_state.specs.FrozenFault.{frozen_fault}
use Rattle.io_traits.specs.Told.{OtherFiles}
use Rattle.command_parts.specs.declared.refusal.Refusal.{Refusal}
use Rattle.command_parts.specs.declared.refusal.Refusal.TheVariants as refusal
use Rattle.command_parts.specs.declared.status.Status.{Status}
use Rattle.command_parts.specs.declared.status.Status.TheVariants as status
use Rattle.command_parts.specs.Bundles.{IsInFileAs}
use Rattle.command_parts.specs.NoRun.{HasCause, IsRefused, LineFailed}
use Rattle.command_parts.specs.Outside.{FilesOutside, NothingRose, Outside}
use Rattle.command_parts.specs.Refusal.{refusal_line, status_of_refusal}
use Rattle.command_parts.specs.Thawing.{AsksThawed, IsBadState, IsTooLong, IsUnthawed, SpellsState, ThawSources, largest_state, state_fault}
use Rattle.completeness.specs.Asked.{OnlyLine, WantsMemory}
use Rattle.completeness.specs.Thaws.{AreToldThawed, ComesToThawed, IsUnfit, Thawed, ThawsAreComplete, TooLong, Unfit}
use Rattle.completeness.proofs.Faults.{never_failed, never_rose}
use Rattle.command_parts.proofs.StreamFacts.{same_stream}
use Rattle.completeness.proofs.Sources.{one_image}
use Rattle.frozen_commands.proofs.SameWords.{as_thaw}
use Rattle.guest_bundle.proofs.Faultless.{no_fault}

-- The words.

no_run : (names : spec.ThawNames) (steps : ℕ) (from : spec.Randomness) (n : List ℕ) (r : Option (List ℕ)) (k : ℕ)
    (x : spec.Randomness) → spec.Thaw names steps from ≡ spec.asked_run n r k x → ⊥
no_run names steps from n (Some r) k x same =
    let clash : spec.Thaw names steps from ≡ spec.Run n r k x = same in cc
no_run names steps from n None k x same =
    let clash : spec.Thaw names steps from ≡ spec.Stats n k x = same in cc

no_store : (names : spec.ThawNames) (steps : ℕ) (from : spec.Randomness) (n : spec.StoreNames) (counter k : ℕ)
    (x : spec.Randomness) → spec.Thaw names steps from ≡ spec.Store n counter k x → ⊥
no_store names steps from n counter k x same = cc

no_freeze : (names : spec.ThawNames) (steps : ℕ) (from : spec.Randomness) (n : spec.FreezeNames) (k : ℕ)
    (x : spec.Randomness) → spec.Thaw names steps from ≡ spec.Freeze n k x → ⊥
no_freeze names steps from n k x same = cc

-- What the files tell is one.

one_source : (names : spec.ThawNames) (from : spec.Randomness) (held : List ℕ → Option (List ℕ)) (s t : ThawSources) →
    AreToldThawed names from held s → AsksThawed names from held t → t ≡ s
one_source names from held s t told asks =
    let image = one_image told.bundle told.is_bundle asks.bundle in
    let spells : SpellsState t.bundle (sha256 t.bytes) t.state told.file =
    subst (λ (o : Option (List ℕ)). IfSome o (SpellsState t.bundle (sha256 t.bytes) t.state)) told.state asks.state in
    let here : SpellsState s.bundle (sha256 s.bytes) t.state told.file =
    subst (λ (l : List ℕ). SpellsState s.bundle (sha256 l) t.state told.file) image.bytes_are
    (subst (λ (b : Bundle). SpellsState b (sha256 t.bytes) t.state told.file) image.bundle spells) in
    let state : t.state ≡ s.state = here.only s.state told.shape told.spelled in
    let stream : t.stream ≡ s.stream = same_stream held from s.stream t.stream told.stream asks.stream in
    λ i. record {
      version = image.version i;
      bytes = image.bytes_are i;
      bundle = image.bundle i;
      state = state i;
      stream = stream i;
    }

-- its file has no fault
right_file : (names : spec.ThawNames) (from : spec.Randomness) (held : List ℕ → Option (List ℕ)) (s : ThawSources)
    (told : AreToldThawed names from held s) → state_fault s.bundle (sha256 s.bytes) told.file ≡ None
right_file names from held s told =
    let digest = sha256 s.bytes in
    let programs : ℕ = length s.bundle.programs in
    ap (λ (b : Bool). cond b (Some (Form largest_state)) (frozen_fault digest s.bundle.kernel programs told.file))
    (le-ltb largest_state (length told.file) told.few)
    ∙ (has_fault_or_state s.bundle.kernel programs digest told.file).right s.state told.shape (length-sha256 s.bytes)
    told.spelled

no_bad_state : {S : Type 0} (names : spec.ThawNames) (steps : ℕ) (from : spec.Randomness) (s : ThawSources)
    (fault : FrozenFault) (before after : FilesOutside S) → AreToldThawed names from before.held s →
    IsBadState (spec.Thaw names steps from) fault before after → ⊥
no_bad_state {S} names steps from s fault before after told cause =
    let found = as_thaw (λ n k x. IsInFileAs cause.version (before.held n.bundle) cause.bytes cause.bundle
    × IfSome (before.held n.state_name) (λ file. state_fault cause.bundle (sha256 cause.bytes) file ≡ Some fault)) names
    cause.names steps cause.steps from cause.randomness cause.thaw (cause.file, cause.first_fault) in
    let image = one_image told.bundle told.is_bundle found.0 in
    let there : state_fault cause.bundle (sha256 cause.bytes) told.file ≡ Some fault =
    subst (λ (o : Option (List ℕ)). IfSome o (λ file. state_fault cause.bundle (sha256 cause.bytes) file ≡ Some fault))
    told.state found.1 in
    let here : state_fault s.bundle (sha256 s.bytes) told.file ≡ Some fault =
    subst (λ (l : List ℕ). state_fault s.bundle (sha256 l) told.file ≡ Some fault) image.bytes_are
    (subst (λ (b : Bundle). state_fault b (sha256 cause.bytes) told.file ≡ Some fault) image.bundle there) in
    let clash : None ≡ Some fault = sym (right_file names from before.held s told) ∙ here in absurd cc

-- The answers.

abbrev Complete : {S O : Type 0} → spec.ThawNames → ℕ → ThawSources → Status → Outside S O → Outside S O → Type 0
Complete names steps s answer before after = WantsMemory answer before after ⊎ ComesToThawed names steps s answer before after

too_long : {S O : Type 0} (names : spec.ThawNames) (steps : ℕ) (from : spec.Randomness) (s : ThawSources)
    (fault : UsageFault) (answer : Status) (before after : Outside S O) → AreToldThawed names from before.files.held s →
    IsTooLong (spec.Thaw names steps from) fault before.files after.files → answer ≡ status.Usage →
    OnlyLine (refusal_line (refusal.Usage fault)) before after → Complete names steps s answer before after
too_long {S} {O} names steps from s fault answer before after told cause is line =
    let both = as_thaw (λ n k x. AsksThawed n x before.files.held cause.sources
    × (most_steps < cause.sources.state.steps + k)) names cause.names steps cause.steps from cause.randomness cause.thaw
    (cause.asks, cause.too_long) in
    let many = subst (λ (t : ThawSources). most_steps < t.state.steps + steps)
    (one_source names from before.files.held s cause.sources told both.0) both.1 in
    inr (TooLong many is
    (subst (λ (f : UsageFault). OnlyLine (refusal_line (refusal.Usage f)) before after) cause.number line))

-- a later test fails
unthawed : {S O : Type 0} (names : spec.ThawNames) (steps : ℕ) (from : spec.Randomness) (s : ThawSources)
    (r : Refusal) (answer : Status) (before after : Outside S O) (Cause : Bundle → Random → Frozen → Type 0) →
    AreToldThawed names from before.files.held s →
    IsUnthawed (spec.Thaw names steps from) Cause before.files after.files →
    (Cause s.bundle s.stream s.state → IsUnfit s r) → answer ≡ status_of_refusal r →
    OnlyLine (refusal_line r) before after → Complete names steps s answer before after
unthawed {S} {O} names steps from s r answer before after Cause told cause unfit is line =
    let both = as_thaw (λ n k x. AsksThawed n x before.files.held cause.sources
    × ((cause.sources.state.steps + k ≤ most_steps)
    × Cause cause.sources.bundle cause.sources.stream cause.sources.state)) names cause.names steps cause.steps from
    cause.randomness cause.thaw (cause.asks, (cause.few, cause.cause)) in
    let here = subst (λ (t : ThawSources). (t.state.steps + steps ≤ most_steps) × Cause t.bundle t.stream t.state)
    (one_source names from before.files.held s cause.sources told both.0) both.1 in
    inr (Unfit r here.0 (unfit here.1) is line)

refused : {S O : Type 0} (names : spec.ThawNames) (steps : ℕ) (from : spec.Randomness) (s : ThawSources)
    (answer : Status) (before after : Outside S O) (r : Refusal) → AreToldThawed names from before.files.held s →
    NothingRose before after → HasCause (spec.Thaw names steps from) r before.files after.files →
    answer ≡ status_of_refusal r → OnlyLine (refusal_line r) before after → Complete names steps s answer before after
refused {S} {O} names steps from s answer before after (refusal.Usage fault) told nothing (inl cause) is line =
    let clash : spec.Thaw names steps from ≡ spec.Faulty fault = cause.faulty in absurd cc
refused {S} {O} names steps from s answer before after (refusal.Usage fault) told nothing (inr cause) is line =
    too_long names steps from s fault answer before after told cause is line
refused {S} {O} names steps from s answer before after (refusal.BadBundle fault) told nothing cause is line =
    let name : Some names.bundle ≡ Some cause.bundle_name = cause.asks in
    let same : cause.bundle_name ≡ names.bundle = cc in
    let here : IfSome (before.files.held names.bundle) (λ bytes. bundle_fault bytes ≡ Some fault) =
    subst (λ (x : List ℕ). IfSome (before.files.held x) (λ bytes. bundle_fault bytes ≡ Some fault)) same
    cause.first_fault in
    absurd (no_fault s.bytes s.bundle fault (s.version, told.is_bundle)
    (subst (λ (t : Option (List ℕ)). IfSome t (λ bytes. bundle_fault bytes ≡ Some fault)) told.bundle here))
refused {S} {O} names steps from s answer before after refusal.ReadFault told nothing cause is line =
    absurd (never_rose _ _ nothing.reading cause.reading)
refused {S} {O} names steps from s answer before after refusal.NoMemory told nothing cause is line =
    inl (record { status = is; line = line })
refused {S} {O} names steps from s answer before after refusal.NoKey told nothing (inl cause) is line =
    absurd (no_run names steps from _ cause.record_name cause.steps _ cause.asks.run)
refused {S} {O} names steps from s answer before after refusal.NoKey told nothing (inr (inl cause)) is line =
    absurd (no_freeze names steps from cause.names cause.steps cause.randomness cause.freeze)
refused {S} {O} names steps from s answer before after refusal.NoKey told nothing (inr (inr cause)) is line =
    unthawed names steps from s refusal.NoKey answer before after _ told cause (λ unfit. unfit) is line
refused {S} {O} names steps from s answer before after refusal.NoPageDraw told nothing (inl cause) is line =
    absurd (no_run names steps from _ cause.record_name cause.steps _ cause.asks.run)
refused {S} {O} names steps from s answer before after refusal.NoPageDraw told nothing (inr (inl cause)) is line =
    absurd (no_store names steps from cause.names cause.counter cause.steps cause.randomness cause.store)
refused {S} {O} names steps from s answer before after refusal.NoPageDraw told nothing (inr (inr (inl cause))) is line =
    absurd (no_freeze names steps from cause.names cause.steps cause.randomness cause.freeze)
refused {S} {O} names steps from s answer before after refusal.NoPageDraw told nothing (inr (inr (inr cause))) is line =
    unthawed names steps from s refusal.NoPageDraw answer before after _ told cause (λ unfit. unfit) is line
refused {S} {O} names steps from s answer before after refusal.NoSuchDomain told nothing cause is line =
    let clash : spec.Thaw names steps from ≡ spec.Solo cause.domain cause.bundle_name cause.record_name = cause.solo in
    absurd cc
refused {S} {O} names steps from s answer before after refusal.ShortSecret told nothing cause is line =
    absurd (no_store names steps from cause.names cause.counter cause.steps cause.randomness cause.store)
refused {S} {O} names steps from s answer before after (refusal.BadStore fault) told nothing cause is line =
    absurd (no_store names steps from cause.names cause.counter cause.steps cause.randomness cause.store)
refused {S} {O} names steps from s answer before after (refusal.NoRoom domain) told nothing cause is line =
    absurd (no_store names steps from cause.names cause.counter cause.steps cause.randomness cause.store)
refused {S} {O} names steps from s answer before after (refusal.BadState fault) told nothing (inl cause) is line =
    absurd (no_bad_state names steps from s fault before.files after.files told cause)
refused {S} {O} names steps from s answer before after (refusal.BadState fault) told nothing (inr cause) is line =
    unthawed names steps from s (refusal.BadState fault) answer before after _ told cause
    (λ wrong. subst (λ (f : FrozenFault). IsUnfit s (refusal.BadState f)) (sym wrong.1) wrong.2) is line
refused {S} {O} names steps from s answer before after (refusal.ChangedDomain domain) told nothing cause is line =
    unthawed names steps from s (refusal.ChangedDomain domain) answer before after _ told cause (λ unfit. unfit) is line
refused {S} {O} names steps from s answer before after (refusal.ChangedFrame frame) told nothing cause is line =
    unthawed names steps from s (refusal.ChangedFrame frame) answer before after _ told cause (λ unfit. unfit) is line

by_refusal : {S O : Type 0} (names : spec.ThawNames) (steps : ℕ) (from : spec.Randomness) (s : ThawSources)
    (answer : Status) (before after : Outside S O) → AreToldThawed names from before.files.held s →
    NothingRose before after → IsRefused (spec.Thaw names steps from) answer before after →
    Complete names steps s answer before after
by_refusal {S} {O} names steps from s answer before after told nothing given =
    refused names steps from s answer before after given.refused told nothing given.no_run.cause given.status
    (record { held = given.no_run.held; shown = given.line })

-- what became of the rest
abbrev Ends : {S O : Type 0} → Status → Outside S O → Outside S O → spec.ThawNames → ℕ → ThawSources → Type 0
Ends answer before after names steps s =
    OfEachRest s steps (λ r. IsWrittenAfter s.state.steps r names.record_name answer before after)
    × OtherFiles names.record_name before.files.held after.files.held

thawed : {S O : Type 0} (names : spec.ThawNames) (steps : ℕ) (from : spec.Randomness) (s : ThawSources)
    (answer : Status) (before after : Outside S O) → AreToldThawed names from before.files.held s →
    HasThawed (spec.Thaw names steps from) answer before after → Complete names steps s answer before after
thawed {S} {O} names steps from s answer before after told given =
    let has = given.thaws in
    let both = as_thaw (λ n k x. AsksThawed n x before.files.held has.sources
    × ((has.sources.state.steps + k ≤ most_steps) × Ends answer before after n k has.sources)) names has.names steps
    has.steps from has.randomness has.thaw (has.asks, (has.few, has.becomes)) in
    let all = subst (λ (t : ThawSources). (t.state.steps + steps ≤ most_steps)
    × (PassesTests t × Ends answer before after names steps t))
    (one_source names from before.files.held s has.sources told both.0) (both.1.0, (has.passes, both.1.1)) in
    inr (Thawed all.0 all.1.0 all.1.1.0 all.1.1.1)

-- nothing failed
no_write_fault : {S O : Type 0} (asked : spec.Asked) (before after : Outside S O) → NothingRose before after →
    LineFailed asked before after ⊎ ThawingBrokeOff asked before after → ⊥
no_write_fault {S} {O} asked before after nothing (inl line) = never_rose _ _ nothing.faults line.faults
no_write_fault {S} {O} asked before after nothing (inr broke) =
    never_failed broke.fault.0 before after nothing broke.fault.1

pub thaws_are_complete : (S O : Type 0) → ThawsAreComplete S O
thaws_are_complete S O n k x status.Done before after given s told nothing =
    thawed n k x s status.Done before after told given
thaws_are_complete S O n k x status.Violation before after given s told nothing =
    thawed n k x s status.Violation before after told given
thaws_are_complete S O n k x status.Usage before after given s told nothing =
    by_refusal n k x s status.Usage before after told nothing given
thaws_are_complete S O n k x status.BadBundle before after given s told nothing =
    by_refusal n k x s status.BadBundle before after told nothing given
thaws_are_complete S O n k x status.ReadFault before after given s told nothing =
    by_refusal n k x s status.ReadFault before after told nothing given
thaws_are_complete S O n k x status.WriteFault before after given s told nothing =
    absurd (no_write_fault (spec.Thaw n k x) before after nothing given)
thaws_are_complete S O n k x status.NoMemory before after given s told nothing =
    by_refusal n k x s status.NoMemory before after told nothing given
thaws_are_complete S O n k x status.NoRandom before after (inl given) s told nothing =
    by_refusal n k x s status.NoRandom before after told nothing given
thaws_are_complete S O n k x status.NoRandom before after (inr given) s told nothing =
    thawed n k x s status.NoRandom before after told given
thaws_are_complete S O n k x status.BadRecord before after given s told nothing = absurd given
thaws_are_complete S O n k x status.BadStore before after given s told nothing =
    by_refusal n k x s status.BadStore before after told nothing given
thaws_are_complete S O n k x status.Frozen before after given s told nothing = absurd given
thaws_are_complete S O n k x status.BadState before after given s told nothing =
    by_refusal n k x s status.BadState before after told nothing given
