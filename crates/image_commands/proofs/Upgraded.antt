-- The answers of `upgrade`.
use Rattle.std.proofs.Common.{◌≡◌, ◌∙◌, ◌<◌, ◌≤◌, ◌-◌, ◌^◌, ℕ, List, length, Err, refl, sym, subst, inl, inr}
use Rattle.cloak_base.specs.Constants.{largest_bundle}
use Rattle.io_traits.specs.Told.{SameFiles}
use Rattle.cloak_model.specs.declared.fault.BundleFault.{BundleFault}
use Rattle.cloak_model.specs.declared.fault.BundleFault.TheVariants as faults
use Rattle.cloak_model.specs.declared.image.Bundle.{Bundle}
use Rattle.command_words.specs.Command as spec
use Rattle.command_parts.specs.declared.refusal.Refusal.{Refusal}
use Rattle.command_parts.specs.declared.refusal.Refusal.TheVariants as refusal
use Rattle.command_parts.specs.declared.status.Status.{Status}
use Rattle.command_parts.specs.declared.status.Status.TheVariants as status
use Rattle.command_parts.specs.Bundles.{IsInFile}
use Rattle.command_parts.specs.NoRun.{IsRefused, NoRun}
use Rattle.command_parts.specs.Outside.{FilesOutside, OnlyRead, Outside, Output, Raised}
use Rattle.command_parts.specs.Refusal.{status_of_refusal}
use Rattle.command_parts.specs.Refusing.{Refuses}
use Rattle.command_parts.proofs.FaultFacts.{raised}
use Rattle.command_parts.proofs.Refused.{IsUnread}
use Rattle.image_commands.specs.Upgrading.{MakesVersion2, UpgradeAnswers, WritesUpgrade, version_2}
use Rattle.image_commands.specs.Writing.{FailsToWrite}
use Rattle.command_parts.specs.Files.{WritesFile}

-- The bundle was not read, or there was no memory.

refused : {S O : Type 0} (old_name new_name : List ℕ) (r : Refusal) (before after : Outside S O) → IsUnread r →
    IsRefused (spec.Upgrade old_name new_name) (status_of_refusal r) before after →
    UpgradeAnswers old_name new_name before after (status_of_refusal r)
refused old_name new_name (refusal.BadBundle fault) before after is given = inl given
refused old_name new_name refusal.ReadFault before after is given = given
refused old_name new_name refusal.NoMemory before after is given = given
refused old_name new_name _ before after is given = absurd is

pub upgrade_refuses : {S O : Type 0} {old_name new_name : List ℕ} {r : Refusal} {before after : Outside S O}
    {given : Status} → IsUnread r → NoRun (spec.Upgrade old_name new_name) r before.files after.files →
    before.output.faults < 2 ^ 64 - 1 → Refuses before.output after.output r given →
    UpgradeAnswers old_name new_name before after given
upgrade_refuses {S} {O} {old_name} {new_name} {r} {before} {after} {given} is none low (inl shows) =
    subst (λ (x : Status). UpgradeAnswers old_name new_name before after x) (sym shows.answer)
    (refused old_name new_name r before after is
    (record { refused = r; status = refl; no_run = none; line = shows.line_shown; faults = shows.faults }))
upgrade_refuses {S} {O} {old_name} {new_name} {r} {before} {after} {given} is none low (inr front) =
    subst (λ (x : Status). UpgradeAnswers old_name new_name before after x) (sym front.answer)
    (inl (record { refused = r; no_run = none; line = front.front_shown; faults = raised front.faults low }))

-- Version 2 would be too large.

pub too_large : {S O : Type 0} (old_name new_name : List ℕ) {before after : Outside S O} {given : Status}
    (b : Bundle) → IsInFile (before.files.held old_name) b → largest_bundle < length (version_2 b) →
    OnlyRead before.files after.files → before.output.faults < 2 ^ 64 - 1 →
    Refuses before.output after.output (refusal.BadBundle (faults.TooLarge 0)) given →
    UpgradeAnswers old_name new_name before after given
too_large {S} {O} old_name new_name {before} {after} {given} b file large files low (inl shows) =
    subst (λ (x : Status). UpgradeAnswers old_name new_name before after x) (sym shows.answer)
    (inr (record {
      bundle = b;
      file = file;
      large = large;
      files = files;
      shown = record { text_shown = shows.line_shown; faults = shows.faults };
    }))
too_large {S} {O} old_name new_name {before} {after} {given} b file large files low (inr front) =
    subst (λ (x : Status). UpgradeAnswers old_name new_name before after x) (sym front.answer)
    (inr (inl (record {
      bundle = b;
      file = file;
      large = large;
      files = files;
      shown = record { front_shown = front.front_shown; faults = raised front.faults low };
    })))

-- the bytes of version 2 were not made
pub not_made : {S O : Type 0} (old_name new_name : List ℕ) {before after : Outside S O} {given : Status}
    (b : Bundle) (r : Refusal) → MakesVersion2 b (Err r) → IsInFile (before.files.held old_name) b →
    OnlyRead before.files after.files → before.output.faults < 2 ^ 64 - 1 →
    Refuses before.output after.output r given → UpgradeAnswers old_name new_name before after given
not_made {S} {O} old_name new_name {before} {after} {given} b (refusal.BadBundle fault) made file files low refuses =
    too_large old_name new_name b file made.1 files low
    (subst (λ (f : BundleFault). Refuses before.output after.output (refusal.BadBundle f) given) made.0 refuses)
not_made {S} {O} old_name new_name {before} {after} {given} b refusal.NoMemory made file files low refuses =
    upgrade_refuses {r = refusal.NoMemory} tt
    (record { cause = record { reading = files.reading }; held = files.held; writing = files.writing }) low refuses
not_made old_name new_name b (refusal.Usage fault) made file files low refuses = absurd made
not_made old_name new_name b _ made file files low refuses = absurd made

-- It was written, or not, seen from before the bundle was read.

writes_since : {S : Type 0} {bytes name : List ℕ} (before mid after : FilesOutside S) → SameFiles before.held mid.held →
    mid.reading ≡ before.reading → mid.writing ≡ before.writing → WritesFile name bytes mid after →
    WritesFile name bytes before after
writes_since before mid after held reading writing w = record {
  file = w.file;
  others = λ other apart. w.others other apart ∙ held other;
  reading = w.reading ∙ reading;
  writing = w.writing ∙ writing;
}

fails_since : {S : Type 0} {bytes name : List ℕ} (before mid after : FilesOutside S) → SameFiles before.held mid.held →
    mid.reading ≡ before.reading → mid.writing ≡ before.writing → FailsToWrite bytes name mid after →
    FailsToWrite bytes name before after
fails_since {S} {bytes} {name} before mid after held reading writing w = record {
  file = elim w.file [
    | inl same ↦ inl (same ∙ held name)
    | inr front ↦ inr front
  ];
  others = λ other apart. w.others other apart ∙ held other;
  reading = w.reading ∙ reading;
  writing = subst (λ (n : ℕ). Raised n after.writing) writing w.writing;
}

pub upgrades : {S O : Type 0} {old_name : List ℕ} (new_name : List ℕ) (before mid : FilesOutside S) (out : Output O)
    (after : Outside S O) (b : Bundle) → IsInFile (before.held old_name) b → length (version_2 b) ≤ largest_bundle →
    SameFiles before.held mid.held → mid.reading ≡ before.reading → mid.writing ≡ before.writing → (given : Status) →
    WritesUpgrade new_name b (record { files = mid; output = out }) after given →
    UpgradeAnswers old_name new_name (record { files = before; output = out }) after given
upgrades new_name before mid out after b file fits held reading writing status.Done w = record {
  bundle = b;
  file = file;
  fits = fits;
  written =
      record { file = writes_since before mid after.files held reading writing w.file; line_shown = w.line_shown };
}
upgrades new_name before mid out after b file fits held reading writing status.WriteFault (inl w) = inr (inr (record {
  bundle = b;
  file = file;
  fits = fits;
  fails =
      inl (record { file = fails_since before mid after.files held reading writing w.file; untouched = w.untouched });
}))
upgrades new_name before mid out after b file fits held reading writing status.WriteFault (inr w) = inr (inr (record {
  bundle = b;
  file = file;
  fits = fits;
  fails =
      inr (record { file = writes_since before mid after.files held reading writing w.file; line_cut = w.line_cut });
}))
upgrades new_name before mid out after b file fits held reading writing status.Violation w = absurd w
upgrades new_name before mid out after b file fits held reading writing status.Usage w = absurd w
upgrades new_name before mid out after b file fits held reading writing status.BadBundle w = absurd w
upgrades new_name before mid out after b file fits held reading writing status.ReadFault w = absurd w
upgrades new_name before mid out after b file fits held reading writing status.NoMemory w = absurd w
upgrades new_name before mid out after b file fits held reading writing status.NoRandom w = absurd w
upgrades new_name before mid out after b file fits held reading writing status.BadRecord w = absurd w
upgrades new_name before mid out after b file fits held reading writing status.BadStore w = absurd w
upgrades new_name before mid out after b file fits held reading writing status.Frozen w = absurd w
upgrades new_name before mid out after b file fits held reading writing status.BadState w = absurd w
