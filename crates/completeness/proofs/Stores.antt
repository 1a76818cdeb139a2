-- Of the causes of what `store` returns, those of faults do not occur if no count rose and what the files tell is one
-- run over each contents.
use native.Mathlib.Omega.{arith}
use Rattle.std.proofs.Common.{◌≡◌, ◌∙◌, ◌⊎◌, ◌<◌, ℕ, List, [], length, take, Option, Some, None, Result, Err, sym, ap, subst, inl, inr}
use Rattle.std.specs.Prelude.{◌≢◌, IfSome}
use Rattle.std.specs.Result.{result_map_both}
use Rattle.std.proofs.lemmas.Bool.{cases_eq}
use Rattle.cloak_model.specs.Beginning.{Stored, opening_stored}
use Rattle.cloak_model.specs.BundleFault.{bundle_fault}
use Rattle.cloak_model.specs.Opening.{Lack, NoPageDraw, NoRoom, RunEdge}
use Rattle.cloak_model.specs.Run.{Run, run_from, run_of}
use Rattle.cloak_model.specs.StoredFiles.{FileContents, IsStore, StoredFile}
use Rattle.cloak_model.specs.StoreFault.{store_fault}
use Rattle.command_words.specs.Command as spec
use Rattle.command_parts.specs.declared.refusal.Refusal.{Refusal}
use Rattle.command_parts.specs.declared.refusal.Refusal.TheVariants as refusal
use Rattle.command_parts.specs.declared.status.Status.{Status}
use Rattle.command_parts.specs.declared.status.Status.TheVariants as status
use Rattle.command_parts.specs.NoRun.{HasCause, IsRefused, LineFailed}
use Rattle.command_parts.specs.Outside.{NothingRose, Outside}
use Rattle.command_parts.specs.Refusal.{refusal_line, status_of_refusal}
use Rattle.command_parts.specs.Storing as given
use Rattle.command_parts.specs.Storing.{AreFiles, AsksStored, IsOld, IsSecret, IsStoredLack, StoreSources, secret_length, secret_of}
use Rattle.sealed_store.proofs.FaultOrTable.{has_fault_or_table}
use Rattle.sealed_store.proofs.SpellsOne.{spells_one}
use Rattle.store_command.specs.Answering.{HasStored, StoringBrokeOff}
use Rattle.store_command.specs.Recording.{StoresAll}
use Rattle.completeness.specs.Asked.{OnlyLine, WantsMemory}
use Rattle.completeness.specs.Runs.{Lacks}
use Rattle.completeness.specs.Stores.{AreTold, ComesToStored, StoresAreComplete}
use Rattle.completeness.proofs.Faults.{never_failed, never_rose}
use Rattle.command_parts.proofs.StreamFacts.{same_stream}
use Rattle.completeness.proofs.Sources.{one_image}
use Rattle.guest_bundle.proofs.Faultless.{no_fault}

-- The words.

-- what is said of the words of a run over files is said of these
as_asked : (P : spec.StoreNames → ℕ → ℕ → spec.Randomness → Type 0) (names n : spec.StoreNames) (counter c steps k : ℕ)
    (from x : spec.Randomness) → spec.Store names counter steps from ≡ spec.Store n c k x → P n c k x →
    P names counter steps from
as_asked P names n counter c steps k from x same said =
    let a : n ≡ names = cc in
    let b : c ≡ counter = cc in
    let d : k ≡ steps = cc in
    let e : x ≡ from = cc in
    subst (λ (y : spec.StoreNames). P y counter steps from) a
    (subst (λ (y : ℕ). P n y steps from) b
    (subst (λ (y : ℕ). P n c y from) d (subst (λ (y : spec.Randomness). P n c k y) e said)))

unfaulty : (names : spec.StoreNames) (counter steps : ℕ) (from : spec.Randomness) (n : List ℕ) (r : Option (List ℕ))
    (k : ℕ) (x : spec.Randomness) → spec.Store names counter steps from ≡ spec.asked_run n r k x → ⊥
unfaulty names counter steps from n (Some r) k x same =
    let clash : spec.Store names counter steps from ≡ spec.Run n r k x = same in absurd cc
unfaulty names counter steps from n None k x same =
    let clash : spec.Store names counter steps from ≡ spec.Stats n k x = same in absurd cc

no_freeze : (names : spec.StoreNames) (counter steps : ℕ) (from : spec.Randomness) (n : spec.FreezeNames) (k : ℕ)
    (x : spec.Randomness) → spec.Store names counter steps from ≡ spec.Freeze n k x → ⊥
no_freeze names counter steps from n k x same = cc

no_thaw : (names : spec.StoreNames) (counter steps : ℕ) (from : spec.Randomness) (n : spec.ThawNames) (k : ℕ)
    (x : spec.Randomness) → spec.Store names counter steps from ≡ spec.Thaw n k x → ⊥
no_thaw names counter steps from n k x same = cc

-- What the files tell is one.

one_secret : (told : Option (List ℕ)) (file : List ℕ) (s t : given.Secret) → told ≡ Some file →
    s ≡ secret_of (take secret_length file) → IsSecret told t → t ≡ s
one_secret told file s t tells is has =
    let front : has.bytes ≡ take secret_length file =
    subst (λ (o : Option (List ℕ)). IfSome o (λ f. has.bytes ≡ take secret_length f)) tells has.front in
    has.same ∙ (ap secret_of front ∙ sym is)

one_table : (told : Option (List ℕ)) (file mac : List ℕ) (counter : ℕ) (table other : List StoredFile) →
    (counter ≡ 0 → table ≡ []) → (counter ≢ 0 → told ≡ Some file) →
    (counter ≢ 0 → IsStore mac counter file table) → IsOld told mac counter other → other ≡ table
one_table told file mac counter table other none tells spelled old = elim (cases_eq counter 0) [
  | inl zero ↦ old.none zero ∙ sym (none zero)
  | inr some ↦
      spells_one mac counter file table other (spelled some)
      (subst (λ (o : Option (List ℕ)). IfSome o (λ bytes. IsStore mac counter bytes other)) (tells some) (old.spelled some))
]

one_source : (names : spec.StoreNames) (counter : ℕ) (from : spec.Randomness) (held : List ℕ → Option (List ℕ))
    (s t : StoreSources) → AreTold names counter from held s → AsksStored names counter from held t → t ≡ s
one_source names counter from held s t told asks =
    let image = one_image told.bundle told.is_bundle asks.bundle in
    let secret : t.secret ≡ s.secret =
    one_secret (held names.secret_name) told.secret_file s.secret t.secret told.secret told.is_secret asks.secret in
    let table : t.table ≡ s.table =
    one_table (held names.old_name) told.old_file s.secret.mac counter s.table t.table told.none told.old told.spelled
    (subst (λ (x : given.Secret). IsOld (held names.old_name) x.mac counter t.table) secret asks.old) in
    let stream : t.stream ≡ s.stream = same_stream held from s.stream t.stream told.stream asks.stream in
    λ i. record {
      version = image.version i;
      bytes = image.bytes_are i;
      bundle = image.bundle i;
      secret = secret i;
      table = table i;
      stream = stream i;
    }

-- The answers.

abbrev Complete : {S O : Type 0} → spec.StoreNames → (counter steps : ℕ) → StoreSources → Status → Outside S O →
    Outside S O → Type 0
Complete names counter steps s answer before after =
    WantsMemory answer before after
    ⊎ ((files : List FileContents) → AreFiles s files →
    ComesToStored names counter s (run_from s.bundle (Stored s.secret.keys s.stream files) steps) answer before after)

lacks : {S O : Type 0} (names : spec.StoreNames) (counter steps : ℕ) (from : spec.Randomness) (s : StoreSources)
    (lack : Lack) (answer : Status) (before after : Outside S O) →
    AreTold names counter from before.files.held s →
    IsStoredLack (spec.Store names counter steps from) lack before.files after.files →
    Lacks lack answer before after → Complete names counter steps s answer before after
lacks {S} {O} names counter steps from s lack answer before after told cause given =
    let asks = as_asked (λ n c k x. AsksStored n c x before.files.held cause.sources) names cause.names counter
    cause.counter steps cause.steps from cause.randomness cause.store cause.asks in
    let each = subst (λ (t : StoreSources). (files : List FileContents) → AreFiles t files →
    opening_stored t.bundle t.secret.keys t.stream files ≡ Err lack)
    (one_source names counter from before.files.held s cause.sources told asks) cause.lacks in
    inr (λ files are. subst (λ (o : Result RunEdge Lack).
    ComesToStored names counter s (result_map_both (run_of s.bundle steps) (λ x. x) o) answer before after)
    (sym (each files are)) given)

refused : {S O : Type 0} (names : spec.StoreNames) (counter steps : ℕ) (from : spec.Randomness) (s : StoreSources)
    (answer : Status) (before after : Outside S O) (r : Refusal) → AreTold names counter from before.files.held s →
    NothingRose before after → HasCause (spec.Store names counter steps from) r before.files after.files →
    answer ≡ status_of_refusal r → OnlyLine (refusal_line r) before after →
    Complete names counter steps s answer before after
refused {S} {O} names counter steps from s answer before after (refusal.Usage fault) told nothing (inl cause) is line =
    let clash : spec.Store names counter steps from ≡ spec.Faulty fault = cause.faulty in absurd cc
refused {S} {O} names counter steps from s answer before after (refusal.Usage fault) told nothing (inr cause) is line =
    absurd (no_thaw names counter steps from cause.names cause.steps cause.randomness cause.thaw)
refused {S} {O} names counter steps from s answer before after (refusal.BadBundle fault) told nothing cause is line =
    let name : Some names.bundle ≡ Some cause.bundle_name = cause.asks in
    let same : cause.bundle_name ≡ names.bundle = cc in
    let here : IfSome (before.files.held names.bundle) (λ bytes. bundle_fault bytes ≡ Some fault) =
    subst (λ (x : List ℕ). IfSome (before.files.held x) (λ bytes. bundle_fault bytes ≡ Some fault)) same
    cause.first_fault in
    absurd (no_fault s.bytes s.bundle fault (s.version, told.is_bundle)
    (subst (λ (t : Option (List ℕ)). IfSome t (λ bytes. bundle_fault bytes ≡ Some fault)) told.bundle here))
refused {S} {O} names counter steps from s answer before after refusal.ReadFault told nothing cause is line =
    absurd (never_rose _ _ nothing.reading cause.reading)
refused {S} {O} names counter steps from s answer before after refusal.NoMemory told nothing cause is line =
    inl (record { status = is; line = line })
refused {S} {O} names counter steps from s answer before after refusal.NoKey told nothing (inl cause) is line =
    absurd (unfaulty names counter steps from _ cause.record_name cause.steps _ cause.asks.run)
refused {S} {O} names counter steps from s answer before after refusal.NoKey told nothing (inr (inl cause)) is line =
    absurd (no_freeze names counter steps from cause.names cause.steps cause.randomness cause.freeze)
refused {S} {O} names counter steps from s answer before after refusal.NoKey told nothing (inr (inr cause)) is line =
    absurd (no_thaw names counter steps from cause.names cause.steps cause.randomness cause.thaw)
refused {S} {O} names counter steps from s answer before after refusal.NoPageDraw told nothing (inl cause) is line =
    absurd (unfaulty names counter steps from _ cause.record_name cause.steps _ cause.asks.run)
refused {S} {O} names counter steps from s answer before after refusal.NoPageDraw told nothing (inr (inl cause)) is line =
    lacks names counter steps from s NoPageDraw answer before after told cause (record { status = is; line = line })
refused {S} {O} names counter steps from s answer before after refusal.NoPageDraw told nothing (inr (inr (inl cause))) is line =
    absurd (no_freeze names counter steps from cause.names cause.steps cause.randomness cause.freeze)
refused {S} {O} names counter steps from s answer before after refusal.NoPageDraw told nothing (inr (inr (inr cause))) is line =
    absurd (no_thaw names counter steps from cause.names cause.steps cause.randomness cause.thaw)
refused {S} {O} names counter steps from s answer before after refusal.NoSuchDomain told nothing cause is line =
    let clash : spec.Store names counter steps from ≡ spec.Solo cause.domain cause.bundle_name cause.record_name =
    cause.solo in absurd cc
refused {S} {O} names counter steps from s answer before after refusal.ShortSecret told nothing cause is line =
    let short = as_asked
    (λ n c k x. IfSome (before.files.held n.secret_name) (λ bytes. length bytes < secret_length)) names cause.names
    counter cause.counter steps cause.steps from cause.randomness cause.store cause.short in
    let few = subst (λ (t : Option (List ℕ)). IfSome t (λ bytes. length bytes < secret_length)) told.secret short in
    let long = told.long in absurd (omega (arith, few, long))
refused {S} {O} names counter steps from s answer before after (refusal.BadStore fault) told nothing cause is line =
    let found = as_asked (λ n c k x. (c ≢ 0) × (IsSecret (before.files.held n.secret_name) cause.secret
    × IfSome (before.files.held n.old_name) (λ bytes. store_fault cause.secret.mac c bytes ≡ Some fault))) names
    cause.names counter cause.counter steps cause.steps from cause.randomness cause.store
    (cause.not_first, (cause.is_secret, cause.first_fault)) in
    let secret : cause.secret ≡ s.secret =
    one_secret (before.files.held names.secret_name) told.secret_file s.secret cause.secret told.secret told.is_secret
    found.1.0 in
    let faulty : store_fault s.secret.mac counter told.old_file ≡ Some fault =
    subst (λ (x : given.Secret). store_fault x.mac counter told.old_file ≡ Some fault) secret
    (subst (λ (t : Option (List ℕ)). IfSome t (λ bytes. store_fault cause.secret.mac counter bytes ≡ Some fault))
    (told.old found.0) found.1.1) in
    let right : store_fault s.secret.mac counter told.old_file ≡ None =
    (has_fault_or_table s.secret.mac counter told.old_file).right s.table (told.spelled found.0) in
    let clash : None ≡ Some fault = sym right ∙ faulty in absurd cc
refused {S} {O} names counter steps from s answer before after (refusal.NoRoom domain) told nothing cause is line =
    lacks names counter steps from s (NoRoom domain) answer before after told cause (record { status = is; line = line })
refused {S} {O} names counter steps from s answer before after (refusal.BadState fault) told nothing (inl cause) is line =
    absurd (no_thaw names counter steps from cause.names cause.steps cause.randomness cause.thaw)
refused {S} {O} names counter steps from s answer before after (refusal.BadState fault) told nothing (inr cause) is line =
    absurd (no_thaw names counter steps from cause.names cause.steps cause.randomness cause.thaw)
refused {S} {O} names counter steps from s answer before after (refusal.ChangedDomain domain) told nothing cause is line =
    absurd (no_thaw names counter steps from cause.names cause.steps cause.randomness cause.thaw)
refused {S} {O} names counter steps from s answer before after (refusal.ChangedFrame frame) told nothing cause is line =
    absurd (no_thaw names counter steps from cause.names cause.steps cause.randomness cause.thaw)

by_refusal : {S O : Type 0} (names : spec.StoreNames) (counter steps : ℕ) (from : spec.Randomness) (s : StoreSources)
    (answer : Status) (before after : Outside S O) → AreTold names counter from before.files.held s →
    NothingRose before after → IsRefused (spec.Store names counter steps from) answer before after →
    Complete names counter steps s answer before after
by_refusal {S} {O} names counter steps from s answer before after told nothing given =
    refused names counter steps from s answer before after given.refused told nothing given.no_run.cause given.status
    (record { held = given.no_run.held; shown = given.line })

made : {S O : Type 0} (names : spec.StoreNames) (counter steps : ℕ) (from : spec.Randomness) (s : StoreSources)
    (answer : Status) (before after : Outside S O) → AreTold names counter from before.files.held s →
    HasStored (spec.Store names counter steps from) answer before after →
    Complete names counter steps s answer before after
made {S} {O} names counter steps from s answer before after told has =
    let both = as_asked (λ n c k x. AsksStored n c x before.files.held has.sources
    × StoresAll n c k has.sources answer before after) names has.names counter has.counter steps has.steps from
    has.randomness has.store (has.asks, has.becomes) in
    let all = subst (λ (t : StoreSources). StoresAll names counter steps t answer before after)
    (one_source names counter from before.files.held s has.sources told both.0) both.1 in
    inr (λ files are. let over = all.leaves files are in
    subst (λ (o : Result Run Lack). ComesToStored names counter s o answer before after) (sym over.runs)
    (all.others, over.left))

-- nothing failed
no_write_fault : {S O : Type 0} (asked : spec.Asked) (before after : Outside S O) → NothingRose before after →
    LineFailed asked before after ⊎ StoringBrokeOff asked before after → ⊥
no_write_fault {S} {O} asked before after nothing (inl line) = never_rose _ _ nothing.faults line.faults
no_write_fault {S} {O} asked before after nothing (inr broke) =
    never_failed broke.becomes.fault.0 before after nothing broke.becomes.fault.1

pub stores_are_complete : (S O : Type 0) → StoresAreComplete S O
stores_are_complete S O n c k x status.Done before after given s told nothing =
    made n c k x s status.Done before after told given
stores_are_complete S O n c k x status.Violation before after given s told nothing =
    made n c k x s status.Violation before after told given
stores_are_complete S O n c k x status.Usage before after given s told nothing =
    by_refusal n c k x s status.Usage before after told nothing given
stores_are_complete S O n c k x status.BadBundle before after given s told nothing =
    by_refusal n c k x s status.BadBundle before after told nothing given
stores_are_complete S O n c k x status.ReadFault before after given s told nothing =
    by_refusal n c k x s status.ReadFault before after told nothing given
stores_are_complete S O n c k x status.WriteFault before after given s told nothing =
    absurd (no_write_fault (spec.Store n c k x) before after nothing given)
stores_are_complete S O n c k x status.NoMemory before after given s told nothing =
    by_refusal n c k x s status.NoMemory before after told nothing given
stores_are_complete S O n c k x status.NoRandom before after (inl given) s told nothing =
    by_refusal n c k x s status.NoRandom before after told nothing given
stores_are_complete S O n c k x status.NoRandom before after (inr given) s told nothing =
    made n c k x s status.NoRandom before after told given
stores_are_complete S O n c k x status.BadRecord before after given s told nothing = absurd given
stores_are_complete S O n c k x status.BadStore before after given s told nothing =
    by_refusal n c k x s status.BadStore before after told nothing given
stores_are_complete S O n c k x status.Frozen before after given s told nothing = absurd given
stores_are_complete S O n c k x status.BadState before after given s told nothing =
    by_refusal n c k x s status.BadState before after told nothing given
