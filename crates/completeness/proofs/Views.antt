-- Of the causes of what `view` and `solo` return, those of faults do not occur if no count rose, nor do those of a
-- damaged record or of an unfit item if the file is a record that fits.
use native.Mathlib.Omega.{arith}
use Rattle.std.proofs.Common.{◌≡◌, ◌∙◌, ◌<◌, ◌≤◌, ◌-◌, ◌^◌, ℕ, List, [], ◌∷◌, ◌++◌, append_assoc, length, drop, Option, Some, None, refl, sym, ap, subst, inl, inr}
use Rattle.std.proofs.Math.Nat.{lt_irrefl}
use Rattle.std.proofs.lemmas.List.{append-nil}
use Rattle.std.proofs.lemmas.Option.{slice_get_within}
use Rattle.std.specs.Prelude.{IfSome, slice_get}
use Rattle.std.specs.List.{flat_map, AllByRecursion}
use Rattle.std.proofs.lemmas.List.Concat.{flat_map-cons}
use Rattle.cloak_model.specs.declared.image.Bundle.{Bundle}
use Rattle.cloak_model.specs.declared.image.KernelImage.{KernelImage}
use Rattle.cloak_model.specs.declared.image.Program.{Program}
use Rattle.cloak_model.specs.Items.{Item}
use Rattle.cloak_model.specs.DomainAlone.{opened_domain, started_part}
use Rattle.cloak_model.specs.BundleFault.{bundle_fault}
use Rattle.cloak_model.specs.Exchange.{item_bytes, record_magic, byte_of}
use Rattle.cloak_model.specs.Opening.{Lack, NoKey, NoPageDraw}
use Rattle.cloak_model.specs.KernelAlone.{kernel_alone, opened_kernel}
use Rattle.cloak_model.specs.Record.{IsItem, IsRecord}
use Rattle.record_law.proofs.Spelling.{fields_of, item_bytes-parts, tag_at}
use Rattle.record_law.proofs.Judged.{front_bytes, not_both, one_record, same_item}
use Rattle.record_law.proofs.Staying.{kernel_stays, program_stays}
use Rattle.record_reader.specs.Ahead.{readable}
use Rattle.io_traits.specs.Told.{Grows, SameFiles}
use Rattle.command_words.specs.declared.usage_fault.UsageFault.{UsageFault}
use Rattle.command_words.specs.Command as spec
use Rattle.command_parts.specs.declared.refusal.Refusal.{Refusal}
use Rattle.command_parts.specs.declared.refusal.Refusal.TheVariants as refusal
use Rattle.command_parts.specs.declared.status.Status.{Status}
use Rattle.command_parts.specs.declared.status.Status.TheVariants as status
use Rattle.command_parts.specs.Bundles.{IsInFile}
use Rattle.command_parts.specs.NoRun.{bundle_named, HasCause, IsLack, IsNoSuchDomain, IsRefused}
use Rattle.command_parts.specs.Outside.{FilesOutside, Outside, NothingRose}
use Rattle.command_parts.specs.Refusal.{refusal_line, status_of_refusal}
use Rattle.read_back.specs.declared.ending.Ending.{Ending}
use Rattle.read_back.specs.declared.ending.Ending.TheVariants as ending
use Rattle.read_back.specs.Answering.{HasSolo, HasView, viewed_unfit, viewed_text, program_unfit, program_text}
use Rattle.read_back.specs.Reading.{BeginsWith, FileIs, FitsAs, ReadsAs, ReadsRecord, status_of_ending}
use Rattle.completeness.specs.Asked.{IsBundleFile, OnlyLine, WantsMemory}
use Rattle.completeness.specs.Views.{IsRecordFile, ShowsAll, SolosAreComplete, ViewsAreComplete}
use Rattle.completeness.proofs.Faults.{never_counted, never_rose, same_bundle}
use Rattle.guest_bundle.proofs.Faultless.{no_fault}

-- A front of a record.

-- an item has bytes
not_none : (i : Item) (r : List ℕ) → item_bytes i ++ r ≡ [] → ⊥
not_none i r is =
    let none : byte_of (tag_at i) ∷ (fields_of i ++ r) ≡ [] =
    sym (ap (λ (l : List ℕ). l ++ r) (item_bytes-parts i)) ∙ is in
    absurd cc

front_of : (f g : List Item) (r : List ℕ) → AllByRecursion IsItem f → AllByRecursion IsItem g →
    flat_map item_bytes f ++ r ≡ flat_map item_bytes g ++ [] → (more : List Item) × (g ≡ f ++ more)
front_of [] g r ff fg same = (g, refl)
front_of (i ∷ f) [] r ff fg same =
    absurd (not_none i (flat_map item_bytes f ++ r) (sym (front_bytes i f r) ∙ same))
front_of (i ∷ f) (j ∷ g) r ff fg same =
    let first = same_item i j (flat_map item_bytes f ++ r) (flat_map item_bytes g ++ []) ff.0 fg.0
    (sym (front_bytes i f r) ∙ same ∙ front_bytes j g []) in
    let others = front_of f g r ff.1 fg.1 first.1 in
    (others.0, ap (λ (k : Item). k ∷ g) (sym first.0) ∙ ap (λ (l : List Item). i ∷ l) others.1)

front_of_record : (file : List ℕ) (items front : List Item) → IsRecord file items → BeginsWith file front →
    (more : List Item) × (items ≡ front ++ more)
front_of_record file items front is (inl none) = (items, ap (λ (f : List Item). f ++ items) (sym none))
front_of_record file items front is (inr begins) =
    let b = begins.1 in
    front_of front items begins.0 b.fields is.fields
    (ap (drop 8) (sym (append_assoc record_magic (flat_map item_bytes front) begins.0) ∙ b.spells ∙ sym is.spells
    ∙ sym (append-nil _)))

-- What is unfit stays unfit.

abbrev Stays : (List Item → Option ℕ) → Type 0
Stays unfit = (front more : List Item) (step : ℕ) → unfit front ≡ Some step → unfit (front ++ more) ≡ Some step

viewed_stays : (k : KernelImage) → Stays (viewed_unfit k)
viewed_stays k = kernel_stays k.schedule (opened_kernel k)

solo_stays : (d : ℕ) (k : KernelImage) (p : Program) → Stays (program_unfit d k (started_part d p))
solo_stays d k p = program_stays d k.schedule (opened_domain d p)

-- How reading ends.

-- a record that fits, and the count of reading faults
record Given (unfit : List Item → Option ℕ) (file : List ℕ) (items : List Item) (reading reads : ℕ) : Type 0 where
  is : IsRecord file items
  fits : unfit items ≡ None
  stays : Stays unfit
  low : reading < 2 ^ 64 - 1
  same : reads ≡ reading

read_whole : (unfit : List Item → Option ℕ) (file : List ℕ) (items : List Item) (reading reads : ℕ) (read : List Item)
    (ended : Ending) → Given unfit file items reading reads → FitsAs unfit read (Some ended) →
    FileIs file read (Some ended) → ReadsAs reading reads (Some ended) → (ended ≡ ending.Whole) × (read ≡ items)
read_whole unfit file items reading reads read ending.Whole g fits is counts =
    (refl, one_record file read items is g.is)
read_whole unfit file items reading reads read (ending.Unfit step) g fits is counts =
    let front = front_of_record file items read g.is is in
    let clash : Some step ≡ None = sym (g.stays read front.0 step fits.is_unfit) ∙ sym (ap unfit front.1) ∙ g.fits in
    absurd cc
read_whole unfit file items reading reads read (ending.Fault fault) g fits (inl is) counts =
    absurd (not_both file items fault g.is (inl is.1))
read_whole unfit file items reading reads read (ending.Fault fault) g fits (inr is) counts =
    absurd (not_both file items fault g.is (inr is.0))
read_whole unfit file items reading reads read ending.Unread g fits is counts =
    absurd (never_counted reading reads g.low g.same counts)

shows_all : {S O : Type 0} (unfit : List Item → Option ℕ) (text : List Item → Option Ending → List ℕ) (name : List ℕ)
    (items : List Item) (answer : Status) (before after : Outside S O) (file : IsRecordFile before.files.held name items) →
    Given unfit (readable file.bytes) items before.files.reading after.files.reading →
    SameFiles before.files.held after.files.held → ReadsRecord unfit text name answer before after →
    ShowsAll (text items (Some ending.Whole)) answer before after
shows_all {S} {O} unfit text name items answer before after file g held r =
    let is : FileIs (readable file.bytes) r.items (Some r.ended) =
    subst (λ (t : Option (List ℕ)). IfSome t (λ bytes. FileIs (readable bytes) r.items (Some r.ended))) file.told r.read.file
    in
    let whole = read_whole unfit (readable file.bytes) items before.files.reading after.files.reading r.items r.ended g
    r.read.fits is r.read.counts in
    record {
      status = r.status ∙ ap status_of_ending whole.0;
      line = record {
        held = held;
        shown = subst (λ (l : List Item). Grows before.output.taken after.output.taken (text l (Some ending.Whole))) whole.1
            (subst (λ (e : Ending). Grows before.output.taken after.output.taken (text r.items (Some e))) whole.0 r.shown);
      };
    }

-- What refuses: nothing but want of memory is left.

-- the words do not ask for a run over cloaked files, and for none that is frozen or goes on
pub record AsksNoOther (asked : spec.Asked) : Type 0 where
  pub store : (names : spec.StoreNames) (counter steps : ℕ) (x : spec.Randomness) →
      asked ≡ spec.Store names counter steps x → ⊥
  pub freeze : (names : spec.FreezeNames) (steps : ℕ) (x : spec.Randomness) → asked ≡ spec.Freeze names steps x → ⊥
  pub thaw : (names : spec.ThawNames) (steps : ℕ) (x : spec.Randomness) → asked ≡ spec.Thaw names steps x → ⊥

refused : {S O : Type 0} (asked : spec.Asked) (name : List ℕ) (b : Bundle) (answer : Status) (before after : Outside S O)
    (r : Refusal) → bundle_named asked ≡ Some name →
    ((fault : UsageFault) → asked ≡ spec.Faulty fault → ⊥) →
    (IsNoSuchDomain asked before.files after.files → ⊥) → ((lack : Lack) → IsLack asked lack before.files after.files → ⊥) →
    AsksNoOther asked →
    IsBundleFile before.files.held name b → NothingRose before after → HasCause asked r before.files after.files →
    answer ≡ status_of_refusal r → OnlyLine (refusal_line r) before after → WantsMemory answer before after
refused {S} {O} asked name b answer before after (refusal.Usage fault) named right has lacks other file nothing (inl cause) is line =
    absurd (right fault cause.faulty)
refused {S} {O} asked name b answer before after (refusal.Usage fault) named right has lacks other file nothing (inr cause) is line =
    absurd (other.thaw cause.names cause.steps cause.randomness cause.thaw)
refused {S} {O} asked name b answer before after (refusal.BadBundle fault) named right has lacks other file nothing cause is line =
    let names : Some cause.bundle_name ≡ Some name = sym cause.asks ∙ named in
    let same : cause.bundle_name ≡ name = cc in
    let here : IfSome (before.files.held name) (λ bytes. bundle_fault bytes ≡ Some fault) =
    subst (λ (n : List ℕ). IfSome (before.files.held n) (λ bytes. bundle_fault bytes ≡ Some fault)) same cause.first_fault in
    absurd (no_fault file.bytes b fault file.is
    (subst (λ (t : Option (List ℕ)). IfSome t (λ bytes. bundle_fault bytes ≡ Some fault)) file.told here))
refused {S} {O} asked name b answer before after refusal.ReadFault named right has lacks other file nothing cause is line =
    absurd (never_rose _ _ nothing.reading cause.reading)
refused {S} {O} asked name b answer before after refusal.NoMemory named right has lacks other file nothing cause is line =
    record { status = is; line = line }
refused {S} {O} asked name b answer before after refusal.NoKey named right has lacks other file nothing (inl cause) is line =
    absurd (lacks NoKey cause)
refused {S} {O} asked name b answer before after refusal.NoKey named right has lacks other file nothing (inr (inl cause)) is line =
    absurd (other.freeze cause.names cause.steps cause.randomness cause.freeze)
refused {S} {O} asked name b answer before after refusal.NoKey named right has lacks other file nothing (inr (inr cause)) is line =
    absurd (other.thaw cause.names cause.steps cause.randomness cause.thaw)
refused {S} {O} asked name b answer before after refusal.NoPageDraw named right has lacks other file nothing (inl cause) is line =
    absurd (lacks NoPageDraw cause)
refused {S} {O} asked name b answer before after refusal.NoPageDraw named right has lacks other file nothing (inr (inl cause)) is line =
    absurd (other.store cause.names cause.counter cause.steps cause.randomness cause.store)
refused {S} {O} asked name b answer before after refusal.NoPageDraw named right has lacks other file nothing (inr (inr (inl cause))) is line =
    absurd (other.freeze cause.names cause.steps cause.randomness cause.freeze)
refused {S} {O} asked name b answer before after refusal.NoPageDraw named right has lacks other file nothing (inr (inr (inr cause))) is line =
    absurd (other.thaw cause.names cause.steps cause.randomness cause.thaw)
refused {S} {O} asked name b answer before after refusal.NoSuchDomain named right has lacks other file nothing cause is line =
    absurd (has cause)
refused {S} {O} asked name b answer before after refusal.ShortSecret named right has lacks other file nothing cause is line =
    absurd (other.store cause.names cause.counter cause.steps cause.randomness cause.store)
refused {S} {O} asked name b answer before after (refusal.BadStore fault) named right has lacks other file nothing cause is line =
    absurd (other.store cause.names cause.counter cause.steps cause.randomness cause.store)
refused {S} {O} asked name b answer before after (refusal.NoRoom domain) named right has lacks other file nothing cause is line =
    absurd (other.store cause.names cause.counter cause.steps cause.randomness cause.store)
refused {S} {O} asked name b answer before after (refusal.BadState fault) named right has lacks other file nothing (inl cause) is line =
    absurd (other.thaw cause.names cause.steps cause.randomness cause.thaw)
refused {S} {O} asked name b answer before after (refusal.BadState fault) named right has lacks other file nothing (inr cause) is line =
    absurd (other.thaw cause.names cause.steps cause.randomness cause.thaw)
refused {S} {O} asked name b answer before after (refusal.ChangedDomain domain) named right has lacks other file nothing cause is line =
    absurd (other.thaw cause.names cause.steps cause.randomness cause.thaw)
refused {S} {O} asked name b answer before after (refusal.ChangedFrame frame) named right has lacks other file nothing cause is line =
    absurd (other.thaw cause.names cause.steps cause.randomness cause.thaw)

pub by_refusal : {S O : Type 0} (asked : spec.Asked) (name : List ℕ) (b : Bundle) (answer : Status)
    (before after : Outside S O) → bundle_named asked ≡ Some name →
    ((fault : UsageFault) → asked ≡ spec.Faulty fault → ⊥) →
    (IsNoSuchDomain asked before.files after.files → ⊥) → ((lack : Lack) → IsLack asked lack before.files after.files → ⊥) →
    AsksNoOther asked →
    IsBundleFile before.files.held name b → NothingRose before after → IsRefused asked answer before after →
    WantsMemory answer before after
by_refusal {S} {O} asked name b answer before after named right has lacks other file nothing given =
    refused asked name b answer before after given.refused named right has lacks other file nothing given.no_run.cause
    given.status (record { held = given.no_run.held; shown = given.line })

-- `view`

views_no_run : (n r n' : List ℕ) (r' : Option (List ℕ)) (k : ℕ) (x : spec.Randomness) →
    spec.View n r ≡ spec.asked_run n' r' k x → ⊥
views_no_run n r n' (Some r') k x is = let clash : spec.View n r ≡ spec.Run n' r' k x = is in cc
views_no_run n r n' None k x is = let clash : spec.View n r ≡ spec.Stats n' k x = is in cc

view_refused : {S O : Type 0} (n r : List ℕ) (b : Bundle) (answer : Status) (before after : Outside S O) →
    IsBundleFile before.files.held n b → NothingRose before after → IsRefused (spec.View n r) answer before after →
    WantsMemory answer before after
view_refused {S} {O} n r b answer before after file nothing given =
    by_refusal (spec.View n r) n b answer before after refl
    (λ fault is. let clash : spec.View n r ≡ spec.Faulty fault = is in absurd cc)
    (λ cause. let clash : spec.View n r ≡ spec.Solo cause.domain cause.bundle_name cause.record_name = cause.solo in
    absurd cc)
    (λ lack cause. views_no_run n r cause.asks.bundle_name cause.record_name cause.steps cause.asks.randomness
    cause.asks.run)
    (record {
      store = λ names counter steps x is. let clash : spec.View n r ≡ spec.Store names counter steps x = is in absurd cc;
      freeze = λ names steps x is. let clash : spec.View n r ≡ spec.Freeze names steps x = is in absurd cc;
      thaw = λ names steps x is. let clash : spec.View n r ≡ spec.Thaw names steps x = is in absurd cc;
    })
    file nothing given

view_names : (n n' r r' : List ℕ) → spec.View n r ≡ spec.View n' r' → (n' ≡ n) × (r' ≡ r)
view_names n n' r r' same = (cc, cc)

viewed : {S O : Type 0} (n r : List ℕ) (b : Bundle) (items : List Item) (answer : Status) (before after : Outside S O) →
    before.files.reading < 2 ^ 64 - 1 → IsBundleFile before.files.held n b →
    IsRecordFile before.files.held r items → viewed_unfit b.kernel items ≡ None → NothingRose before after →
    HasView (spec.View n r) answer before after →
    ShowsAll (viewed_text b.kernel items (Some ending.Whole)) answer before after
viewed {S} {O} n r b items answer before after low file there fits nothing has =
    let names = view_names n has.asks.bundle_name r has.record_name has.asks.view in
    let bundle = same_bundle (before.files.held n) file.bytes b has.bundle file.told file.is
    (subst (λ (x : List ℕ). IsInFile (before.files.held x) has.bundle) names.0 has.asks.file) in
    shows_all (viewed_unfit b.kernel) (viewed_text b.kernel) r items answer before after there
    (record { is = there.is; fits = fits; stays = viewed_stays b.kernel; low = low; same = nothing.reading }) has.only.held
    (subst (λ (x : List ℕ). ReadsRecord (viewed_unfit b.kernel) (viewed_text b.kernel) x answer before after) names.1
    (subst (λ (x : Bundle). ReadsRecord (viewed_unfit x.kernel) (viewed_text x.kernel) has.record_name answer before after)
    bundle has.reads))

pub views_are_complete : (S O : Type 0) → ViewsAreComplete S O
views_are_complete S O n r status.Done before after low given b items file there fits nothing =
    inr (viewed n r b items status.Done before after low file there fits nothing given)
views_are_complete S O n r status.Violation before after low given b items file there fits nothing = absurd given
views_are_complete S O n r status.Usage before after low given b items file there fits nothing = absurd given
views_are_complete S O n r status.BadBundle before after low given b items file there fits nothing =
    inl (view_refused n r b status.BadBundle before after file nothing given)
views_are_complete S O n r status.ReadFault before after low (inl given) b items file there fits nothing =
    inl (view_refused n r b status.ReadFault before after file nothing given)
views_are_complete S O n r status.ReadFault before after low (inr given) b items file there fits nothing =
    inr (viewed n r b items status.ReadFault before after low file there fits nothing given)
views_are_complete S O n r status.WriteFault before after low (inl given) b items file there fits nothing =
    absurd (never_rose _ _ nothing.faults given.faults)
views_are_complete S O n r status.WriteFault before after low (inr given) b items file there fits nothing =
    absurd (never_rose _ _ nothing.faults given.breaks.faults)
views_are_complete S O n r status.NoMemory before after low given b items file there fits nothing =
    inl (view_refused n r b status.NoMemory before after file nothing given)
views_are_complete S O n r status.NoRandom before after low given b items file there fits nothing = absurd given
views_are_complete S O n r status.BadRecord before after low given b items file there fits nothing =
    inr (viewed n r b items status.BadRecord before after low file there fits nothing given)
views_are_complete S O n r status.BadStore before after low given b items file there fits nothing = absurd given
views_are_complete S O n r status.Frozen before after low given b items file there fits nothing = absurd given
views_are_complete S O n r status.BadState before after low given b items file there fits nothing = absurd given

-- `solo`

solo_names : (d d' : ℕ) (n n' r r' : List ℕ) → spec.Solo d n r ≡ spec.Solo d' n' r' → (d' ≡ d) × (n' ≡ n) × (r' ≡ r)
solo_names d d' n n' r r' same = (cc, cc, cc)

none_there : (programs : List Program) (d : ℕ) (p : Program) → length programs ≤ d → slice_get programs d ≡ Some p → ⊥
none_there programs d p few there =
    let within : d < length programs = slice_get_within programs d p there in
    lt_irrefl d (omega (arith, few, within))

has_program : {S : Type 0} (d : ℕ) (n r : List ℕ) (b : Bundle) (p : Program) (before after : FilesOutside S) →
    IsBundleFile before.held n b → slice_get b.programs d ≡ Some p →
    IsNoSuchDomain (spec.Solo d n r) before after → ⊥
has_program {S} d n r b p before after file there cause =
    let names = solo_names d cause.domain n cause.bundle_name r cause.record_name cause.solo in
    let bundle = same_bundle (before.held n) file.bytes b cause.bundle file.told file.is
    (subst (λ (x : List ℕ). IsInFile (before.held x) cause.bundle) names.1 cause.file) in
    let few : length b.programs ≤ d =
    subst (λ (x : ℕ). length b.programs ≤ x) names.0
    (subst (λ (x : Bundle). length x.programs ≤ cause.domain) bundle cause.too_few) in
    none_there b.programs d p few there

solos_no_run : (d : ℕ) (n r n' : List ℕ) (r' : Option (List ℕ)) (k : ℕ) (x : spec.Randomness) →
    spec.Solo d n r ≡ spec.asked_run n' r' k x → ⊥
solos_no_run d n r n' (Some r') k x is = let clash : spec.Solo d n r ≡ spec.Run n' r' k x = is in cc
solos_no_run d n r n' None k x is = let clash : spec.Solo d n r ≡ spec.Stats n' k x = is in cc

solo_refused : {S O : Type 0} (d : ℕ) (n r : List ℕ) (b : Bundle) (p : Program) (answer : Status)
    (before after : Outside S O) → IsBundleFile before.files.held n b → slice_get b.programs d ≡ Some p →
    NothingRose before after → IsRefused (spec.Solo d n r) answer before after → WantsMemory answer before after
solo_refused {S} {O} d n r b p answer before after file there nothing given =
    by_refusal (spec.Solo d n r) n b answer before after refl
    (λ fault is. let clash : spec.Solo d n r ≡ spec.Faulty fault = is in absurd cc)
    (has_program d n r b p before.files after.files file there)
    (λ lack cause. solos_no_run d n r cause.asks.bundle_name cause.record_name cause.steps cause.asks.randomness
    cause.asks.run)
    (record {
      store = λ names counter steps x is. let clash : spec.Solo d n r ≡ spec.Store names counter steps x = is in absurd cc;
      freeze = λ names steps x is. let clash : spec.Solo d n r ≡ spec.Freeze names steps x = is in absurd cc;
      thaw = λ names steps x is. let clash : spec.Solo d n r ≡ spec.Thaw names steps x = is in absurd cc;
    })
    file nothing given

soloed : {S O : Type 0} (d : ℕ) (n r : List ℕ) (b : Bundle) (p : Program) (items : List Item) (answer : Status)
    (before after : Outside S O) → before.files.reading < 2 ^ 64 - 1 → IsBundleFile before.files.held n b →
    slice_get b.programs d ≡ Some p → IsRecordFile before.files.held r items → program_unfit d b.kernel (started_part d p) items ≡ None →
    NothingRose before after → HasSolo (spec.Solo d n r) answer before after →
    ShowsAll (program_text d b.kernel (started_part d p) items (Some ending.Whole)) answer before after
soloed {S} {O} d n r b p items answer before after low file has_p there fits nothing has =
    let names = solo_names d has.d n has.asks.bundle_name r has.record_name has.asks.solo in
    let bundle = same_bundle (before.files.held n) file.bytes b has.bundle file.told file.is
    (subst (λ (x : List ℕ). IsInFile (before.files.held x) has.bundle) names.1 has.asks.file) in
    let theirs : slice_get b.programs d ≡ Some has.p =
    subst (λ (x : ℕ). slice_get b.programs x ≡ Some has.p) names.0
    (subst (λ (x : Bundle). slice_get x.programs has.d ≡ Some has.p) bundle has.asks.program) in
    let both : Some has.p ≡ Some p = sym theirs ∙ has_p in
    let program : has.p ≡ p = cc in
    shows_all (program_unfit d b.kernel (started_part d p)) (program_text d b.kernel (started_part d p)) r items answer before after there
    (record { is = there.is; fits = fits; stays = solo_stays d b.kernel p; low = low; same = nothing.reading })
    has.only.held
    (subst (λ (x : List ℕ). ReadsRecord (program_unfit d b.kernel (started_part d p))
    (program_text d b.kernel (started_part d p)) x answer before after) names.2
    (subst (λ (x : Program). ReadsRecord (program_unfit d b.kernel (started_part d x))
    (program_text d b.kernel (started_part d x)) has.record_name answer before after) program
    (subst (λ (x : ℕ). ReadsRecord (program_unfit x b.kernel (started_part x has.p))
    (program_text x b.kernel (started_part x has.p)) has.record_name answer before after) names.0
    (subst (λ (x : Bundle). ReadsRecord (program_unfit has.d x.kernel (started_part has.d has.p))
    (program_text has.d x.kernel (started_part has.d has.p)) has.record_name answer before after) bundle has.reads))))

pub solos_are_complete : (S O : Type 0) → SolosAreComplete S O
solos_are_complete S O d n r status.Done before after low given b p items file has there fits nothing =
    inr (soloed d n r b p items status.Done before after low file has there fits nothing given)
solos_are_complete S O d n r status.Violation before after low given b p items file has there fits nothing = absurd given
solos_are_complete S O d n r status.Usage before after low given b p items file has there fits nothing =
    inl (solo_refused d n r b p status.Usage before after file has nothing given)
solos_are_complete S O d n r status.BadBundle before after low given b p items file has there fits nothing =
    inl (solo_refused d n r b p status.BadBundle before after file has nothing given)
solos_are_complete S O d n r status.ReadFault before after low (inl given) b p items file has there fits nothing =
    inl (solo_refused d n r b p status.ReadFault before after file has nothing given)
solos_are_complete S O d n r status.ReadFault before after low (inr given) b p items file has there fits nothing =
    inr (soloed d n r b p items status.ReadFault before after low file has there fits nothing given)
solos_are_complete S O d n r status.WriteFault before after low (inl given) b p items file has there fits nothing =
    absurd (never_rose _ _ nothing.faults given.faults)
solos_are_complete S O d n r status.WriteFault before after low (inr given) b p items file has there fits nothing =
    absurd (never_rose _ _ nothing.faults given.breaks.faults)
solos_are_complete S O d n r status.NoMemory before after low given b p items file has there fits nothing =
    inl (solo_refused d n r b p status.NoMemory before after file has nothing given)
solos_are_complete S O d n r status.NoRandom before after low given b p items file has there fits nothing = absurd given
solos_are_complete S O d n r status.BadRecord before after low given b p items file has there fits nothing =
    inr (soloed d n r b p items status.BadRecord before after low file has there fits nothing given)
solos_are_complete S O d n r status.BadStore before after low given b p items file has there fits nothing = absurd given
solos_are_complete S O d n r status.Frozen before after low given b p items file has there fits nothing = absurd given
solos_are_complete S O d n r status.BadState before after low given b p items file has there fits nothing = absurd given
