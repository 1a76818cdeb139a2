-- Of the causes of what `upgrade` returns, those of faults do not occur if no count rose.
use Rattle.std.proofs.Common.{◌≡◌, ◌⊎◌, ℕ, List, Option, Some, None, refl, subst, inl, inr}
use Rattle.cloak_model.specs.declared.image.Bundle.{Bundle}
use Rattle.command_words.specs.Command as spec
use Rattle.command_parts.specs.declared.status.Status.{Status}
use Rattle.command_parts.specs.declared.status.Status.TheVariants as status
use Rattle.command_parts.specs.Bundles.{IsInFile}
use Rattle.command_parts.specs.NoRun.{IsRefused}
use Rattle.command_parts.specs.Outside.{Outside, NothingRose}
use Rattle.image_commands.specs.Showing.{IsShown}
use Rattle.image_commands.specs.Upgrading.{HasUpgraded, IsTooLarge}
use Rattle.completeness.specs.Asked.{IsBundleFile, WantsMemory}
use Rattle.completeness.specs.Upgrades.{ComesToUpgrade, UpgradesAreComplete, Upgraded, TooLarge}
use Rattle.completeness.proofs.Faults.{never_rose, same_bundle}
use Rattle.completeness.proofs.Views.{by_refusal}

no_run : (n m n' : List ℕ) (r : Option (List ℕ)) (k : ℕ) (x : spec.Randomness) →
    spec.Upgrade n m ≡ spec.asked_run n' r k x → ⊥
no_run n m n' (Some r) k x is = let clash : spec.Upgrade n m ≡ spec.Run n' r k x = is in cc
no_run n m n' None k x is = let clash : spec.Upgrade n m ≡ spec.Stats n' k x = is in cc

only_memory : {S O : Type 0} (n m : List ℕ) (b : Bundle) (answer : Status) (before after : Outside S O) →
    IsBundleFile before.files.held n b → NothingRose before after → IsRefused (spec.Upgrade n m) answer before after →
    WantsMemory answer before after
only_memory {S} {O} n m b answer before after file nothing given =
    by_refusal (spec.Upgrade n m) n b answer before after refl
    (λ fault is. let clash : spec.Upgrade n m ≡ spec.Faulty fault = is in absurd cc)
    (λ cause. let clash : spec.Upgrade n m ≡ spec.Solo cause.domain cause.bundle_name cause.record_name = cause.solo in
    absurd cc)
    (λ lack cause. no_run n m cause.asks.bundle_name cause.record_name cause.steps cause.asks.randomness cause.asks.run)
    (record {
      store = λ names counter steps x is. let clash : spec.Upgrade n m ≡ spec.Store names counter steps x = is in absurd cc;
      freeze = λ names steps x is. let clash : spec.Upgrade n m ≡ spec.Freeze names steps x = is in absurd cc;
      thaw = λ names steps x is. let clash : spec.Upgrade n m ≡ spec.Thaw names steps x = is in absurd cc;
    })
    file nothing given

upgraded : {S O : Type 0} (n m : List ℕ) (b : Bundle) (before after : Outside S O) → IsBundleFile before.files.held n b →
    HasUpgraded n m before after → ComesToUpgrade m b status.Done before after
upgraded {S} {O} n m b before after file has =
    let same = same_bundle (before.files.held n) file.bytes b has.bundle file.told file.is has.file in
    subst (λ (x : Bundle). ComesToUpgrade m x status.Done before after) same (Upgraded has.fits refl has.written)

is_too_large : {S O : Type 0} (n m : List ℕ) (b : Bundle) (before after : Outside S O) →
    IsBundleFile before.files.held n b → IsTooLarge n IsShown before after →
    ComesToUpgrade m b status.BadBundle before after
is_too_large {S} {O} n m b before after file has =
    let same = same_bundle (before.files.held n) file.bytes b has.bundle file.told file.is has.file in
    subst (λ (x : Bundle). ComesToUpgrade m x status.BadBundle before after) same
    (TooLarge has.large refl (record { held = has.files.held; shown = has.shown.text_shown }))

pub upgrades_are_complete : (S O : Type 0) → UpgradesAreComplete S O
upgrades_are_complete S O n m status.Done before after given b file nothing =
    inr (upgraded n m b before after file given)
upgrades_are_complete S O n m status.BadBundle before after (inl given) b file nothing =
    inl (only_memory n m b status.BadBundle before after file nothing given)
upgrades_are_complete S O n m status.BadBundle before after (inr given) b file nothing =
    inr (is_too_large n m b before after file given)
upgrades_are_complete S O n m status.ReadFault before after given b file nothing =
    inl (only_memory n m b status.ReadFault before after file nothing given)
upgrades_are_complete S O n m status.NoMemory before after given b file nothing =
    inl (only_memory n m b status.NoMemory before after file nothing given)
upgrades_are_complete S O n m status.WriteFault before after (inl given) b file nothing =
    absurd (never_rose _ _ nothing.faults given.faults)
upgrades_are_complete S O n m status.WriteFault before after (inr (inl given)) b file nothing =
    absurd (never_rose _ _ nothing.faults given.shown.faults)
upgrades_are_complete S O n m status.WriteFault before after (inr (inr given)) b file nothing =
    elim given.fails [
      | inl fails ↦ absurd (never_rose _ _ nothing.writing fails.file.writing)
      | inr fails ↦ absurd (never_rose _ _ nothing.faults fails.line_cut.faults)
    ]
upgrades_are_complete S O n m status.Violation before after given b file nothing = absurd given
upgrades_are_complete S O n m status.Usage before after given b file nothing = absurd given
upgrades_are_complete S O n m status.NoRandom before after given b file nothing = absurd given
upgrades_are_complete S O n m status.BadRecord before after given b file nothing = absurd given
upgrades_are_complete S O n m status.BadStore before after given b file nothing = absurd given
upgrades_are_complete S O n m status.Frozen before after given b file nothing = absurd given
upgrades_are_complete S O n m status.BadState before after given b file nothing = absurd given
