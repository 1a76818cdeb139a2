-- What the words of a run ask for, with or without its record, and which reasons to refuse it are left if no count
-- rose.
use Rattle.std.proofs.Common.{◌≡◌, ◌∙◌, ◌⊎◌, ℕ, List, Option, Some, None, Err, refl, sym, ap, subst, inl, inr}
use Rattle.std.specs.Prelude.{IfSome}
use Rattle.cloak_base.specs.Random.{Random}
use Rattle.cloak_model.specs.declared.image.Bundle.{Bundle}
use Rattle.cloak_model.specs.BundleFault.{bundle_fault}
use Rattle.cloak_model.specs.Opening.{Lack, NoKey, NoPageDraw, opening}
use Rattle.command_words.specs.declared.usage_fault.UsageFault.{UsageFault}
use Rattle.command_words.specs.Command as spec
use Rattle.command_parts.specs.declared.refusal.Refusal.{Refusal}
use Rattle.command_parts.specs.declared.refusal.Refusal.TheVariants as refusal
use Rattle.command_parts.specs.declared.status.Status.{Status}
use Rattle.command_parts.specs.Bundles.{IsInFile}
use Rattle.command_parts.specs.NoRun.{AsksBundle, HasCause, IsLack, IsRefused}
use Rattle.command_parts.specs.Streams.{IsStream}
use Rattle.command_parts.specs.Outside.{Outside, NothingRose}
use Rattle.command_parts.specs.Refusal.{status_of_refusal, refusal_line}
use Rattle.run_command.proofs.PrepareFacts.{run_named}
use Rattle.completeness.specs.Asked.{IsBundleFile, OnlyLine, WantsMemory}
use Rattle.completeness.specs.Runs.{Lacks}
use Rattle.command_parts.specs.Streams.{IsToldStream}
use Rattle.completeness.proofs.Faults.{never_rose, same_bundle}
use Rattle.command_parts.proofs.StreamFacts.{same_stream}
use Rattle.guest_bundle.proofs.Faultless.{no_fault}

-- What is asked for.

-- what is asked for is told: one bundle, one stream, and the words' own record and budget
pub record IsAsked (record_name : Option (List ℕ)) (steps : ℕ) (b : Bundle) (s : Random) (name' : Option (List ℕ))
    (steps' : ℕ) (bundle : Bundle) (stream : Random) : Type 0 where
  pub name : name' ≡ record_name
  pub budget : steps' ≡ steps
  pub bundle_is : bundle ≡ b
  pub stream_is : stream ≡ s

names_are : (n n' : List ℕ) (r r' : Option (List ℕ)) (k k' : ℕ) (x x' : spec.Randomness) →
    spec.asked_run n r k x ≡ spec.asked_run n' r' k' x' → (n' ≡ n) × (r' ≡ r) × (k' ≡ k) × (x' ≡ x)
names_are n n' (Some r) (Some r') k k' x x' same =
    let is : spec.Run n r k x ≡ spec.Run n' r' k' x' = same in
    let name : r' ≡ r = cc in
    (cc, ap (λ (l : List ℕ). Some l) name, cc, cc)
names_are n n' None None k k' x x' same =
    let is : spec.Stats n k x ≡ spec.Stats n' k' x' = same in (cc, refl, cc, cc)
names_are n n' (Some r) None k k' x x' same =
    let clash : spec.Run n r k x ≡ spec.Stats n' k' x' = same in absurd cc
names_are n n' None (Some r') k k' x x' same =
    let clash : spec.Stats n k x ≡ spec.Run n' r' k' x' = same in absurd cc

pub asked_is : (held : List ℕ → Option (List ℕ)) (bundle_name : List ℕ) (record_name : Option (List ℕ)) (steps : ℕ)
    (from : spec.Randomness) (b : Bundle) (s : Random) (name' : Option (List ℕ)) (steps' : ℕ) (bundle : Bundle)
    (stream : Random) →
    IsBundleFile held bundle_name b → IsToldStream held from s →
    AsksBundle (spec.asked_run bundle_name record_name steps from) held name' steps' bundle stream →
    IsAsked record_name steps b s name' steps' bundle stream
asked_is held bundle_name record_name steps from b s name' steps' bundle stream file told asks =
    let names = names_are bundle_name asks.bundle_name record_name name' steps steps' from asks.randomness asks.run in
    record {
      name = names.1;
      budget = names.2;
      bundle_is = same_bundle (held bundle_name) file.bytes b bundle file.told file.is
          (subst (λ (n : List ℕ). IsInFile (held n) bundle) names.0 asks.file);
      stream_is = same_stream held from s stream told
          (subst (λ (x : spec.Randomness). IsStream held x stream) names.3 asks.source);
    }

-- What refuses: want of memory, and an opening that lacks a draw.

-- the opening lacks a draw, and the line says which
pub record OpensNot {S O : Type 0} (b : Bundle) (s : Random) (answer : Status) (before after : Outside S O) : Type 0
  where
    pub lack : Lack
    pub opens : opening b s ≡ Err lack
    pub lacks : Lacks lack answer before after

opens_not : {S O : Type 0} (bundle_name : List ℕ) (record_name : Option (List ℕ)) (steps : ℕ) (from : spec.Randomness)
    (b : Bundle) (s : Random) (lack : Lack) (answer : Status) (before after : Outside S O) →
    IsBundleFile before.files.held bundle_name b → IsToldStream before.files.held from s →
    IsLack (spec.asked_run bundle_name record_name steps from) lack before.files after.files →
    Lacks lack answer before after → OpensNot b s answer before after
opens_not {S} {O} bundle_name record_name steps from b s lack answer before after file told cause given =
    let is = asked_is before.files.held bundle_name record_name steps from b s cause.record_name cause.steps
    cause.bundle cause.stream file told cause.asks in
    record {
      lack = lack;
      opens = subst (λ (x : Random). opening b x ≡ Err lack) is.stream_is
          (subst (λ (x : Bundle). opening x cause.stream ≡ Err lack) is.bundle_is cause.lacks);
      lacks = given;
    }

run_unfaulty : (n : List ℕ) (r : Option (List ℕ)) (k : ℕ) (x : spec.Randomness) (fault : UsageFault) →
    spec.asked_run n r k x ≡ spec.Faulty fault → ⊥
run_unfaulty n (Some r) k x fault same = let clash : spec.Run n r k x ≡ spec.Faulty fault = same in cc
run_unfaulty n None k x fault same = let clash : spec.Stats n k x ≡ spec.Faulty fault = same in cc

run_no_solo : (n : List ℕ) (r : Option (List ℕ)) (k : ℕ) (x : spec.Randomness) (d : ℕ) (n' r' : List ℕ) →
    spec.asked_run n r k x ≡ spec.Solo d n' r' → ⊥
run_no_solo n (Some r) k x d n' r' same = let clash : spec.Run n r k x ≡ spec.Solo d n' r' = same in cc
run_no_solo n None k x d n' r' same = let clash : spec.Stats n k x ≡ spec.Solo d n' r' = same in cc

run_no_store : (n : List ℕ) (r : Option (List ℕ)) (k : ℕ) (x : spec.Randomness) (names : spec.StoreNames)
    (counter steps : ℕ) (x' : spec.Randomness) → spec.asked_run n r k x ≡ spec.Store names counter steps x' → ⊥
run_no_store n (Some r) k x names counter steps x' same =
    let clash : spec.Run n r k x ≡ spec.Store names counter steps x' = same in cc
run_no_store n None k x names counter steps x' same =
    let clash : spec.Stats n k x ≡ spec.Store names counter steps x' = same in cc

run_no_freeze : (n : List ℕ) (r : Option (List ℕ)) (k : ℕ) (x : spec.Randomness) (names : spec.FreezeNames) (steps : ℕ)
    (x' : spec.Randomness) → spec.asked_run n r k x ≡ spec.Freeze names steps x' → ⊥
run_no_freeze n (Some r) k x names steps x' same =
    let clash : spec.Run n r k x ≡ spec.Freeze names steps x' = same in cc
run_no_freeze n None k x names steps x' same =
    let clash : spec.Stats n k x ≡ spec.Freeze names steps x' = same in cc

run_no_thaw : (n : List ℕ) (r : Option (List ℕ)) (k : ℕ) (x : spec.Randomness) (names : spec.ThawNames) (steps : ℕ)
    (x' : spec.Randomness) → spec.asked_run n r k x ≡ spec.Thaw names steps x' → ⊥
run_no_thaw n (Some r) k x names steps x' same =
    let clash : spec.Run n r k x ≡ spec.Thaw names steps x' = same in cc
run_no_thaw n None k x names steps x' same = let clash : spec.Stats n k x ≡ spec.Thaw names steps x' = same in cc

refused : {S O : Type 0} (bundle_name : List ℕ) (record_name : Option (List ℕ)) (steps : ℕ) (from : spec.Randomness)
    (b : Bundle) (s : Random) (answer : Status) (before after : Outside S O) (r : Refusal) →
    IsBundleFile before.files.held bundle_name b → IsToldStream before.files.held from s → NothingRose before after →
    HasCause (spec.asked_run bundle_name record_name steps from) r before.files after.files →
    answer ≡ status_of_refusal r → OnlyLine (refusal_line r) before after →
    WantsMemory answer before after ⊎ OpensNot b s answer before after
refused {S} {O} n m steps from b s answer before after (refusal.Usage fault) file told nothing (inl cause) is line =
    absurd (run_unfaulty n m steps from fault cause.faulty)
refused {S} {O} n m steps from b s answer before after (refusal.Usage fault) file told nothing (inr cause) is line =
    absurd (run_no_thaw n m steps from cause.names cause.steps cause.randomness cause.thaw)
refused {S} {O} n m steps from b s answer before after (refusal.BadBundle fault) file told nothing cause is line =
    let name : Some n ≡ Some cause.bundle_name = sym (run_named n m steps from) ∙ cause.asks in
    let same : cause.bundle_name ≡ n = cc in
    let here : IfSome (before.files.held n) (λ bytes. bundle_fault bytes ≡ Some fault) =
    subst (λ (x : List ℕ). IfSome (before.files.held x) (λ bytes. bundle_fault bytes ≡ Some fault)) same
    cause.first_fault in
    absurd (no_fault file.bytes b fault file.is
    (subst (λ (t : Option (List ℕ)). IfSome t (λ bytes. bundle_fault bytes ≡ Some fault)) file.told here))
refused {S} {O} n m steps from b s answer before after refusal.ReadFault file told nothing cause is line =
    absurd (never_rose _ _ nothing.reading cause.reading)
refused {S} {O} n m steps from b s answer before after refusal.NoMemory file told nothing cause is line =
    inl (record { status = is; line = line })
refused {S} {O} n m steps from b s answer before after refusal.NoKey file told nothing (inl cause) is line =
    inr (opens_not n m steps from b s NoKey answer before after file told cause (record { status = is; line = line }))
refused {S} {O} n m steps from b s answer before after refusal.NoKey file told nothing (inr (inl cause)) is line =
    absurd (run_no_freeze n m steps from cause.names cause.steps cause.randomness cause.freeze)
refused {S} {O} n m steps from b s answer before after refusal.NoKey file told nothing (inr (inr cause)) is line =
    absurd (run_no_thaw n m steps from cause.names cause.steps cause.randomness cause.thaw)
refused {S} {O} n m steps from b s answer before after refusal.NoPageDraw file told nothing (inl cause) is line =
    inr (opens_not n m steps from b s NoPageDraw answer before after file told cause
    (record { status = is; line = line }))
refused {S} {O} n m steps from b s answer before after refusal.NoPageDraw file told nothing (inr (inl cause)) is line =
    absurd (run_no_store n m steps from cause.names cause.counter cause.steps cause.randomness cause.store)
refused {S} {O} n m steps from b s answer before after refusal.NoPageDraw file told nothing (inr (inr (inl cause))) is line =
    absurd (run_no_freeze n m steps from cause.names cause.steps cause.randomness cause.freeze)
refused {S} {O} n m steps from b s answer before after refusal.NoPageDraw file told nothing (inr (inr (inr cause))) is line =
    absurd (run_no_thaw n m steps from cause.names cause.steps cause.randomness cause.thaw)
refused {S} {O} n m steps from b s answer before after refusal.NoSuchDomain file told nothing cause is line =
    absurd (run_no_solo n m steps from cause.domain cause.bundle_name cause.record_name cause.solo)
refused {S} {O} n m steps from b s answer before after refusal.ShortSecret file told nothing cause is line =
    absurd (run_no_store n m steps from cause.names cause.counter cause.steps cause.randomness cause.store)
refused {S} {O} n m steps from b s answer before after (refusal.BadStore fault) file told nothing cause is line =
    absurd (run_no_store n m steps from cause.names cause.counter cause.steps cause.randomness cause.store)
refused {S} {O} n m steps from b s answer before after (refusal.NoRoom domain) file told nothing cause is line =
    absurd (run_no_store n m steps from cause.names cause.counter cause.steps cause.randomness cause.store)
refused {S} {O} n m steps from b s answer before after (refusal.BadState fault) file told nothing (inl cause) is line =
    absurd (run_no_thaw n m steps from cause.names cause.steps cause.randomness cause.thaw)
refused {S} {O} n m steps from b s answer before after (refusal.BadState fault) file told nothing (inr cause) is line =
    absurd (run_no_thaw n m steps from cause.names cause.steps cause.randomness cause.thaw)
refused {S} {O} n m steps from b s answer before after (refusal.ChangedDomain domain) file told nothing cause is line =
    absurd (run_no_thaw n m steps from cause.names cause.steps cause.randomness cause.thaw)
refused {S} {O} n m steps from b s answer before after (refusal.ChangedFrame frame) file told nothing cause is line =
    absurd (run_no_thaw n m steps from cause.names cause.steps cause.randomness cause.thaw)

pub run_refused : {S O : Type 0} (bundle_name : List ℕ) (record_name : Option (List ℕ)) (steps : ℕ)
    (from : spec.Randomness) (b : Bundle) (s : Random) (answer : Status) (before after : Outside S O) →
    IsBundleFile before.files.held bundle_name b → IsToldStream before.files.held from s → NothingRose before after →
    IsRefused (spec.asked_run bundle_name record_name steps from) answer before after →
    WantsMemory answer before after ⊎ OpensNot b s answer before after
run_refused {S} {O} bundle_name record_name steps from b s answer before after file told nothing given =
    refused bundle_name record_name steps from b s answer before after given.refused file told nothing
    given.no_run.cause given.status (record { held = given.no_run.held; shown = given.line })
