-- Of the causes of what `solo` over cloaked files returns, those of faults do not occur if no count rose.
use native.Mathlib.Omega.{arith}
use Rattle.std.proofs.Common.{◌≡◌, ◌≢◌, ◌⊎◌, ◌<◌, ◌≤◌, ◌-◌, ◌^◌, ℕ, List, length, Option, Some, None, refl, sym, ap, subst, inl, inr}
use Rattle.std.proofs.Math.Nat.{lt_irrefl}
use Rattle.std.proofs.lemmas.Option.{slice_get_within}
use Rattle.std.specs.Prelude.{slice_get}
use Rattle.cloak_model.specs.declared.image.Bundle.{Bundle}
use Rattle.cloak_model.specs.declared.image.Program.{Program}
use Rattle.command_words.specs.Command as spec
use Rattle.command_parts.specs.declared.refusal.Refusal.{Refusal}
use Rattle.command_parts.specs.declared.refusal.Refusal.TheVariants as refusal
use Rattle.command_parts.specs.declared.status.Status.{Status}
use Rattle.command_parts.specs.declared.status.Status.TheVariants as status
use Rattle.command_parts.specs.Bundles.{IsInFile}
use Rattle.command_parts.specs.NoRun.{IsRefused}
use Rattle.command_parts.specs.Outside.{FilesOutside, Outside, NothingRose}
use Rattle.command_parts.specs.Refusal.{status_of_refusal}
use Rattle.read_back.specs.AnsweringOver.{HasCauseOver, HasSoloOver, IsRefusedOver, LacksProgramOver}
use Rattle.read_back.specs.Reading.{ReadsAs, status_of_ending}
use Rattle.read_back.specs.declared.ending.Ending.{Ending}
use Rattle.read_back.specs.declared.ending.Ending.TheVariants as ending
use Rattle.completeness.specs.Asked.{IsBundleFile, WantsMemory}
use Rattle.completeness.specs.SoloOvers.{SoloOversAreComplete}
use Rattle.completeness.proofs.Faults.{never_counted, never_rose, same_bundle}
use Rattle.completeness.proofs.Views.{by_refusal}

over_no_run : (d : ℕ) (n r n' : List ℕ) (old : spec.OldFiles) (r' : Option (List ℕ)) (k : ℕ) (x : spec.Randomness) →
    spec.SoloOver d n r old ≡ spec.asked_run n' r' k x → ⊥
over_no_run d n r n' old (Some r') k x is = let clash : spec.SoloOver d n r old ≡ spec.Run n' r' k x = is in cc
over_no_run d n r n' old None k x is = let clash : spec.SoloOver d n r old ≡ spec.Stats n' k x = is in cc

refused : {S O : Type 0} (d : ℕ) (n r : List ℕ) (old : spec.OldFiles) (b : Bundle) (answer : Status)
    (before after : Outside S O) → IsBundleFile before.files.held n b → NothingRose before after →
    IsRefused (spec.SoloOver d n r old) answer before after → WantsMemory answer before after
refused {S} {O} d n r old b answer before after file nothing given =
    by_refusal (spec.SoloOver d n r old) n b answer before after refl
    (λ fault is. let clash : spec.SoloOver d n r old ≡ spec.Faulty fault = is in absurd cc)
    (λ cause. let clash : spec.SoloOver d n r old ≡ spec.Solo cause.domain cause.bundle_name cause.record_name = cause.solo
    in absurd cc)
    (λ lack cause. over_no_run d n r cause.asks.bundle_name old cause.record_name cause.steps cause.asks.randomness
    cause.asks.run)
    (record {
      store = λ names counter steps x is.
          let clash : spec.SoloOver d n r old ≡ spec.Store names counter steps x = is in absurd cc;
      freeze = λ names steps x is. let clash : spec.SoloOver d n r old ≡ spec.Freeze names steps x = is in absurd cc;
      thaw = λ names steps x is. let clash : spec.SoloOver d n r old ≡ spec.Thaw names steps x = is in absurd cc;
    })
    file nothing given

over_names : (d d' : ℕ) (n n' r r' : List ℕ) (old old' : spec.OldFiles) →
    spec.SoloOver d n r old ≡ spec.SoloOver d' n' r' old' → (d' ≡ d) × (n' ≡ n)
over_names d d' n n' r r' old old' same = (cc, cc)

has_program : {S : Type 0} (d : ℕ) (n r : List ℕ) (old : spec.OldFiles) (b : Bundle) (p : Program)
    (before after : FilesOutside S) → IsBundleFile before.held n b → slice_get b.programs d ≡ Some p →
    LacksProgramOver (spec.SoloOver d n r old) before after → ⊥
has_program {S} d n r old b p before after file there cause =
    let names = over_names d cause.d n cause.bundle_name r cause.record_name old cause.old cause.solo in
    let bundle = same_bundle (before.held n) file.bytes b cause.bundle file.told file.is
    (subst (λ (x : List ℕ). IsInFile (before.held x) cause.bundle) names.1 cause.file) in
    let few : length b.programs ≤ d =
    subst (λ (x : ℕ). length b.programs ≤ x) names.0
    (subst (λ (x : Bundle). length x.programs ≤ cause.d) bundle cause.too_few) in
    let within : d < length b.programs = slice_get_within b.programs d p there in
    lt_irrefl d (omega (arith, few, within))

-- the program did not begin
by_cause : {S O : Type 0} (d : ℕ) (n r : List ℕ) (old : spec.OldFiles) (b : Bundle) (p : Program) (answer : Status)
    (before after : Outside S O) → before.files.reading < 2 ^ 64 - 1 → IsBundleFile before.files.held n b →
    slice_get b.programs d ≡ Some p → NothingRose before after →
    (given : IsRefusedOver (spec.SoloOver d n r old) answer before after) → (r' : Refusal) → r' ≡ given.refused →
    answer ≡ status_of_refusal r' → HasCauseOver (spec.SoloOver d n r old) r' before.files after.files →
    WantsMemory answer before after
    ⊎ ((answer ≡ status.BadStore) × IsRefusedOver (spec.SoloOver d n r old) answer before after)
by_cause {S} {O} d n r old b p answer before after low file there nothing given refusal.NoSuchDomain same is cause =
    absurd (has_program d n r old b p before.files after.files file there cause)
by_cause {S} {O} d n r old b p answer before after low file there nothing given refusal.ReadFault same is cause =
    absurd (never_counted _ _ low nothing.reading cause.lacks.0)
by_cause {S} {O} d n r old b p answer before after low file there nothing given refusal.NoMemory same is cause =
    inl (record {
      status = is;
      line = rw same (record { held = given.only.held; shown = given.line });
    })
by_cause {S} {O} d n r old b p answer before after low file there nothing given refusal.ShortSecret same is cause =
    inr (is, given)
by_cause {S} {O} d n r old b p answer before after low file there nothing given (refusal.BadStore fault) same is cause =
    inr (is, given)
by_cause {S} {O} d n r old b p answer before after low file there nothing given (refusal.NoRoom domain) same is cause =
    inr (is, given)
by_cause {S} {O} d n r old b p answer before after low file there nothing given (refusal.Usage fault) same is cause =
    absurd cause.lacks
by_cause {S} {O} d n r old b p answer before after low file there nothing given (refusal.BadBundle fault) same is cause =
    absurd cause.lacks
by_cause {S} {O} d n r old b p answer before after low file there nothing given refusal.NoKey same is cause =
    absurd cause.lacks
by_cause {S} {O} d n r old b p answer before after low file there nothing given refusal.NoPageDraw same is cause =
    absurd cause.lacks
by_cause {S} {O} d n r old b p answer before after low file there nothing given (refusal.BadState fault) same is cause =
    absurd cause.lacks
by_cause {S} {O} d n r old b p answer before after low file there nothing given (refusal.ChangedDomain domain) same is cause =
    absurd cause.lacks
by_cause {S} {O} d n r old b p answer before after low file there nothing given (refusal.ChangedFrame frame) same is cause =
    absurd cause.lacks

abbrev Left : {S O : Type 0} → spec.Asked → Status → Outside S O → Outside S O → Type 0
Left asked answer before after =
    WantsMemory answer before after
    ⊎ (((answer ≡ status.BadStore) × IsRefusedOver asked answer before after)
    ⊎ ((answer ≢ status.ReadFault) × HasSoloOver asked answer before after))

not_begun : {S O : Type 0} (d : ℕ) (n r : List ℕ) (old : spec.OldFiles) (b : Bundle) (p : Program) (answer : Status)
    (before after : Outside S O) → before.files.reading < 2 ^ 64 - 1 → IsBundleFile before.files.held n b →
    slice_get b.programs d ≡ Some p → NothingRose before after →
    IsRefusedOver (spec.SoloOver d n r old) answer before after →
    Left (spec.SoloOver d n r old) answer before after
not_begun {S} {O} d n r old b p answer before after low file there nothing given =
    elim (by_cause d n r old b p answer before after low file there nothing given given.refused refl given.status
    given.cause) [
      | inl wants ↦ inl wants
      | inr why ↦ inr (inl why)
    ]

-- reading failed, and no count rose
never_unread : (before now : ℕ) (e : Ending) → before < 2 ^ 64 - 1 → now ≡ before → status.ReadFault ≡ status_of_ending e →
    ReadsAs before now (Some e) → ⊥
never_unread before now ending.Unread low same is counts = never_counted before now low same counts
never_unread before now ending.Whole low same is counts = let no : status.ReadFault ≡ status.Done = is in cc
never_unread before now (ending.Unfit step) low same is counts = let no : status.ReadFault ≡ status.BadRecord = is in cc
never_unread before now (ending.Fault fault) low same is counts = let no : status.ReadFault ≡ status.BadRecord = is in cc

pub solo_overs_are_complete : (S O : Type 0) → SoloOversAreComplete S O
solo_overs_are_complete S O d n r old status.Done before after low given b p file there nothing =
    inr (inr (λ is. (let no : status.Done ≡ status.ReadFault = is in cc), given))
solo_overs_are_complete S O d n r old status.Violation before after low given b p file there nothing = absurd given
solo_overs_are_complete S O d n r old status.Usage before after low given b p file there nothing =
    not_begun d n r old b p status.Usage before after low file there nothing given
solo_overs_are_complete S O d n r old status.BadBundle before after low given b p file there nothing =
    inl (refused d n r old b status.BadBundle before after file nothing given)
solo_overs_are_complete S O d n r old status.ReadFault before after low (inl given) b p file there nothing =
    inl (refused d n r old b status.ReadFault before after file nothing given)
solo_overs_are_complete S O d n r old status.ReadFault before after low (inr (inl given)) b p file there nothing =
    not_begun d n r old b p status.ReadFault before after low file there nothing given
solo_overs_are_complete S O d n r old status.ReadFault before after low (inr (inr given)) b p file there nothing =
    absurd (never_unread _ _ given.reads.ended low nothing.reading given.reads.status given.reads.read.counts)
solo_overs_are_complete S O d n r old status.WriteFault before after low (inl given) b p file there nothing =
    absurd (never_rose _ _ nothing.faults given.faults)
solo_overs_are_complete S O d n r old status.WriteFault before after low (inr (inl given)) b p file there nothing =
    absurd (never_rose _ _ nothing.faults given.faults)
solo_overs_are_complete S O d n r old status.WriteFault before after low (inr (inr given)) b p file there nothing =
    absurd (never_rose _ _ nothing.faults given.breaks.faults)
solo_overs_are_complete S O d n r old status.NoMemory before after low (inl given) b p file there nothing =
    inl (refused d n r old b status.NoMemory before after file nothing given)
solo_overs_are_complete S O d n r old status.NoMemory before after low (inr given) b p file there nothing =
    not_begun d n r old b p status.NoMemory before after low file there nothing given
solo_overs_are_complete S O d n r old status.NoRandom before after low given b p file there nothing = absurd given
solo_overs_are_complete S O d n r old status.BadRecord before after low given b p file there nothing =
    inr (inr (λ is. (let no : status.BadRecord ≡ status.ReadFault = is in cc), given))
solo_overs_are_complete S O d n r old status.BadStore before after low given b p file there nothing =
    not_begun d n r old b p status.BadStore before after low file there nothing given
solo_overs_are_complete S O d n r old status.Frozen before after low given b p file there nothing = absurd given
solo_overs_are_complete S O d n r old status.BadState before after low given b p file there nothing = absurd given
