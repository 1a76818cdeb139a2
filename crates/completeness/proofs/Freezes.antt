-- Of the causes of what `freeze` returns, those of faults do not occur if no count rose and what the files tell is one
-- run with its vectors.
use Rattle.std.proofs.Common.{◌≡◌, ◌⊎◌, ℕ, List, Option, Some, None, Result, Ok, Err, refl, sym, subst, inl, inr}
use Rattle.std.specs.Prelude.{IfSome}
use Rattle.std.specs.Result.{result_map_both}
use Rattle.cloak_model.specs.BundleFault.{bundle_fault}
use Rattle.cloak_model.specs.Opening.{Lack, NoKey, NoPageDraw, RunEdge, opening}
use Rattle.cloak_model.specs.Run.{Run, joint_run, run_of}
use Rattle.command_words.specs.Command as spec
use Rattle.frozen_commands.specs.FreezeAnswering.{Freezes, FreezingBrokeOff, HasEnded, HasStopped, IfNoneClashed, IsSaved, LacksVectors}
use Rattle.command_parts.specs.declared.refusal.Refusal.{Refusal}
use Rattle.command_parts.specs.declared.refusal.Refusal.TheVariants as refusal
use Rattle.command_parts.specs.declared.status.Status.{Status}
use Rattle.command_parts.specs.declared.status.Status.TheVariants as status
use Rattle.command_parts.specs.Freezing.{AsksFrozen, FreezeSources, IsFreezeLack}
use Rattle.command_parts.specs.NoRun.{HasCause, IsRefused, LineFailed}
use Rattle.command_parts.specs.Outside.{NothingRose, Outside}
use Rattle.command_parts.specs.Refusal.{refusal_line, status_of_refusal}
use Rattle.completeness.specs.Asked.{OnlyLine, WantsMemory}
use Rattle.completeness.specs.Freezes.{AreToldFrozen, ComesToFrozen, EndsFrozen, FreezesAreComplete}
use Rattle.completeness.specs.Runs.{Lacks}
use Rattle.completeness.proofs.Faults.{never_failed, never_rose}
use Rattle.command_parts.proofs.StreamFacts.{same_stream}
use Rattle.completeness.proofs.Sources.{one_image}
use Rattle.frozen_commands.proofs.SameWords.{as_freeze}
use Rattle.guest_bundle.proofs.Faultless.{no_fault}

-- The words.

no_run : (names : spec.FreezeNames) (steps : ℕ) (from : spec.Randomness) (n : List ℕ) (r : Option (List ℕ)) (k : ℕ)
    (x : spec.Randomness) → spec.Freeze names steps from ≡ spec.asked_run n r k x → ⊥
no_run names steps from n (Some r) k x same =
    let clash : spec.Freeze names steps from ≡ spec.Run n r k x = same in cc
no_run names steps from n None k x same =
    let clash : spec.Freeze names steps from ≡ spec.Stats n k x = same in cc

no_store : (names : spec.FreezeNames) (steps : ℕ) (from : spec.Randomness) (n : spec.StoreNames) (counter k : ℕ)
    (x : spec.Randomness) → spec.Freeze names steps from ≡ spec.Store n counter k x → ⊥
no_store names steps from n counter k x same = cc

no_thaw : (names : spec.FreezeNames) (steps : ℕ) (from : spec.Randomness) (n : spec.ThawNames) (k : ℕ)
    (x : spec.Randomness) → spec.Freeze names steps from ≡ spec.Thaw n k x → ⊥
no_thaw names steps from n k x same = cc

-- What the files tell is one.

one_source : (names : spec.FreezeNames) (from : spec.Randomness) (held : List ℕ → Option (List ℕ)) (s t : FreezeSources) →
    AreToldFrozen names from held s → AsksFrozen names from held t → t ≡ s
one_source names from held s t told asks =
    let image = one_image told.bundle told.is_bundle asks.bundle in
    let stream : t.stream ≡ s.stream = same_stream held from s.stream t.stream told.stream asks.stream in
    let vectors : t.vectors ≡ s.vectors =
    same_stream held (spec.FromFile names.vectors_name) s.vectors t.vectors told.vectors asks.vectors in
    λ i. record {
      version = image.version i;
      bytes = image.bytes_are i;
      bundle = image.bundle i;
      stream = stream i;
      vectors = vectors i;
    }

-- The answers.

abbrev Complete : {S O : Type 0} → spec.FreezeNames → ℕ → FreezeSources → Status → Outside S O → Outside S O → Type 0
Complete names steps s answer before after =
    WantsMemory answer before after ⊎ ComesToFrozen names steps s (joint_run s.bundle s.stream steps) answer before after

lacks : {S O : Type 0} (names : spec.FreezeNames) (steps : ℕ) (from : spec.Randomness) (s : FreezeSources) (lack : Lack)
    (answer : Status) (before after : Outside S O) → AreToldFrozen names from before.files.held s →
    IsFreezeLack (spec.Freeze names steps from) lack before.files after.files → Lacks lack answer before after →
    Complete names steps s answer before after
lacks {S} {O} names steps from s lack answer before after told cause given =
    let both = as_freeze (λ n k x. AsksFrozen n x before.files.held cause.sources
    × (opening cause.sources.bundle cause.sources.stream ≡ Err lack)) names cause.names steps cause.steps from
    cause.randomness cause.freeze (cause.asks, cause.lacks) in
    let opens : opening s.bundle s.stream ≡ Err lack =
    subst (λ (t : FreezeSources). opening t.bundle t.stream ≡ Err lack)
    (one_source names from before.files.held s cause.sources told both.0) both.1 in
    inr (subst (λ (o : Result RunEdge Lack). ComesToFrozen names steps s
    (result_map_both (run_of s.bundle steps) (λ x. x) o) answer before after) (sym opens) given)

refused : {S O : Type 0} (names : spec.FreezeNames) (steps : ℕ) (from : spec.Randomness) (s : FreezeSources)
    (answer : Status) (before after : Outside S O) (r : Refusal) → AreToldFrozen names from before.files.held s →
    NothingRose before after → HasCause (spec.Freeze names steps from) r before.files after.files →
    answer ≡ status_of_refusal r → OnlyLine (refusal_line r) before after → Complete names steps s answer before after
refused {S} {O} names steps from s answer before after (refusal.Usage fault) told nothing (inl cause) is line =
    let clash : spec.Freeze names steps from ≡ spec.Faulty fault = cause.faulty in absurd cc
refused {S} {O} names steps from s answer before after (refusal.Usage fault) told nothing (inr cause) is line =
    absurd (no_thaw names steps from cause.names cause.steps cause.randomness cause.thaw)
refused {S} {O} names steps from s answer before after (refusal.BadBundle fault) told nothing cause is line =
    let name : Some names.bundle ≡ Some cause.bundle_name = cause.asks in
    let same : cause.bundle_name ≡ names.bundle = cc in
    let here : IfSome (before.files.held names.bundle) (λ bytes. bundle_fault bytes ≡ Some fault) =
    subst (λ (x : List ℕ). IfSome (before.files.held x) (λ bytes. bundle_fault bytes ≡ Some fault)) same
    cause.first_fault in
    absurd (no_fault s.bytes s.bundle fault (s.version, told.is_bundle)
    (subst (λ (t : Option (List ℕ)). IfSome t (λ bytes. bundle_fault bytes ≡ Some fault)) told.bundle here))
refused {S} {O} names steps from s answer before after refusal.ReadFault told nothing cause is line =
    absurd (never_rose _ _ nothing.reading cause.reading)
refused {S} {O} names steps from s answer before after refusal.NoMemory told nothing cause is line =
    inl (record { status = is; line = line })
refused {S} {O} names steps from s answer before after refusal.NoKey told nothing (inl cause) is line =
    absurd (no_run names steps from _ cause.record_name cause.steps _ cause.asks.run)
refused {S} {O} names steps from s answer before after refusal.NoKey told nothing (inr (inl cause)) is line =
    lacks names steps from s NoKey answer before after told cause (record { status = is; line = line })
refused {S} {O} names steps from s answer before after refusal.NoKey told nothing (inr (inr cause)) is line =
    absurd (no_thaw names steps from cause.names cause.steps cause.randomness cause.thaw)
refused {S} {O} names steps from s answer before after refusal.NoPageDraw told nothing (inl cause) is line =
    absurd (no_run names steps from _ cause.record_name cause.steps _ cause.asks.run)
refused {S} {O} names steps from s answer before after refusal.NoPageDraw told nothing (inr (inl cause)) is line =
    absurd (no_store names steps from cause.names cause.counter cause.steps cause.randomness cause.store)
refused {S} {O} names steps from s answer before after refusal.NoPageDraw told nothing (inr (inr (inl cause))) is line =
    lacks names steps from s NoPageDraw answer before after told cause (record { status = is; line = line })
refused {S} {O} names steps from s answer before after refusal.NoPageDraw told nothing (inr (inr (inr cause))) is line =
    absurd (no_thaw names steps from cause.names cause.steps cause.randomness cause.thaw)
refused {S} {O} names steps from s answer before after refusal.NoSuchDomain told nothing cause is line =
    let clash : spec.Freeze names steps from ≡ spec.Solo cause.domain cause.bundle_name cause.record_name = cause.solo in
    absurd cc
refused {S} {O} names steps from s answer before after refusal.ShortSecret told nothing cause is line =
    absurd (no_store names steps from cause.names cause.counter cause.steps cause.randomness cause.store)
refused {S} {O} names steps from s answer before after (refusal.BadStore fault) told nothing cause is line =
    absurd (no_store names steps from cause.names cause.counter cause.steps cause.randomness cause.store)
refused {S} {O} names steps from s answer before after (refusal.NoRoom domain) told nothing cause is line =
    absurd (no_store names steps from cause.names cause.counter cause.steps cause.randomness cause.store)
refused {S} {O} names steps from s answer before after (refusal.BadState fault) told nothing (inl cause) is line =
    absurd (no_thaw names steps from cause.names cause.steps cause.randomness cause.thaw)
refused {S} {O} names steps from s answer before after (refusal.BadState fault) told nothing (inr cause) is line =
    absurd (no_thaw names steps from cause.names cause.steps cause.randomness cause.thaw)
refused {S} {O} names steps from s answer before after (refusal.ChangedDomain domain) told nothing cause is line =
    absurd (no_thaw names steps from cause.names cause.steps cause.randomness cause.thaw)
refused {S} {O} names steps from s answer before after (refusal.ChangedFrame frame) told nothing cause is line =
    absurd (no_thaw names steps from cause.names cause.steps cause.randomness cause.thaw)

by_refusal : {S O : Type 0} (names : spec.FreezeNames) (steps : ℕ) (from : spec.Randomness) (s : FreezeSources)
    (answer : Status) (before after : Outside S O) → AreToldFrozen names from before.files.held s →
    NothingRose before after → IsRefused (spec.Freeze names steps from) answer before after →
    Complete names steps s answer before after
by_refusal {S} {O} names steps from s answer before after told nothing given =
    refused names steps from s answer before after given.refused told nothing given.no_run.cause given.status
    (record { held = given.no_run.held; shown = given.line })

-- a run that was made
made : {S O : Type 0} (names : spec.FreezeNames) (steps : ℕ) (from : spec.Randomness) (s : FreezeSources)
    (answer : Status) (before after : Outside S O) (Becomes : spec.FreezeNames → ℕ → FreezeSources → Run → Type 0) →
    AreToldFrozen names from before.files.held s → Freezes (spec.Freeze names steps from) before after Becomes →
    ((r : Run) → Becomes names steps s r → IfNoneClashed r (EndsFrozen names steps s r answer before after)) →
    Complete names steps s answer before after
made {S} {O} names steps from s answer before after Becomes told has ends =
    let both = as_freeze (λ n k x. AsksFrozen n x before.files.held has.sources
    × ((joint_run has.sources.bundle has.sources.stream k ≡ Ok has.made) × Becomes n k has.sources has.made)) names
    has.names steps has.steps from has.randomness has.freeze (has.asks, (has.joint, has.becomes)) in
    let all = subst (λ (t : FreezeSources). (joint_run t.bundle t.stream steps ≡ Ok has.made)
    × Becomes names steps t has.made) (one_source names from before.files.held s has.sources told both.0) both.1 in
    inr (subst (λ (o : Result Run Lack). ComesToFrozen names steps s o answer before after) (sym all.0)
    (ends has.made all.1))

ended : {S O : Type 0} (names : spec.FreezeNames) (steps : ℕ) (from : spec.Randomness) (s : FreezeSources)
    (answer : Status) (before after : Outside S O) → AreToldFrozen names from before.files.held s →
    HasEnded (spec.Freeze names steps from) answer before after → Complete names steps s answer before after
ended {S} {O} names steps from s answer before after told given =
    made names steps from s answer before after
    (λ names' steps' t r. IfNoneClashed r (HasStopped names' r answer before after)) told given.freezes
    (λ r has none. inr (inl (has none)))

-- nothing failed
no_write_fault : {S O : Type 0} (asked : spec.Asked) (before after : Outside S O) → NothingRose before after →
    LineFailed asked before after ⊎ FreezingBrokeOff asked before after → ⊥
no_write_fault {S} {O} asked before after nothing (inl line) = never_rose _ _ nothing.faults line.faults
no_write_fault {S} {O} asked before after nothing (inr broke) =
    never_failed broke.fault.0 before after nothing broke.fault.1

pub freezes_are_complete : (S O : Type 0) → FreezesAreComplete S O
freezes_are_complete S O n k x status.Done before after given s told nothing =
    ended n k x s status.Done before after told given
freezes_are_complete S O n k x status.Violation before after given s told nothing =
    ended n k x s status.Violation before after told given
freezes_are_complete S O n k x status.Usage before after given s told nothing =
    by_refusal n k x s status.Usage before after told nothing given
freezes_are_complete S O n k x status.BadBundle before after given s told nothing =
    by_refusal n k x s status.BadBundle before after told nothing given
freezes_are_complete S O n k x status.ReadFault before after given s told nothing =
    by_refusal n k x s status.ReadFault before after told nothing given
freezes_are_complete S O n k x status.WriteFault before after given s told nothing =
    absurd (no_write_fault (spec.Freeze n k x) before after nothing given)
freezes_are_complete S O n k x status.NoMemory before after given s told nothing =
    by_refusal n k x s status.NoMemory before after told nothing given
freezes_are_complete S O n k x status.NoRandom before after (inl given) s told nothing =
    by_refusal n k x s status.NoRandom before after told nothing given
freezes_are_complete S O n k x status.NoRandom before after (inr (inl given)) s told nothing =
    ended n k x s status.NoRandom before after told given
freezes_are_complete S O n k x status.NoRandom before after (inr (inr given)) s told nothing =
    made n k x s status.NoRandom before after
    (λ names steps t r. IfNoneClashed r (LacksVectors names steps t r before after)) told given.freezes
    (λ r has none. inr (inr (refl, has none)))
freezes_are_complete S O n k x status.BadRecord before after given s told nothing = absurd given
freezes_are_complete S O n k x status.BadStore before after given s told nothing =
    by_refusal n k x s status.BadStore before after told nothing given
freezes_are_complete S O n k x status.Frozen before after given s told nothing =
    made n k x s status.Frozen before after
    (λ names steps t r. IfNoneClashed r (IsSaved names steps t r before after)) told given.freezes
    (λ r has none. inl (refl, has none))
freezes_are_complete S O n k x status.BadState before after given s told nothing =
    by_refusal n k x s status.BadState before after told nothing given
