-- The answers of `upgrade`, each status with its cause.
use Rattle.std.specs.Prelude.{ℕ, ◌≡◌, ◌<◌, ◌≤◌, ◌⊎◌, List, length, codes, Vec, Result, Ok, Err}
use Rattle.std.specs.declared.alloc.Global.{Global}
use Rattle.cloak_base.specs.Constants.{largest_bundle}
use Rattle.cloak_model.specs.declared.fault.BundleFault.TheVariants as faults
use Rattle.cloak_model.specs.declared.image.Bundle.{Bundle}
use Rattle.cloak_model.specs.Bundle.{bundle_bytes}
use Rattle.command_words.specs.Command as spec
use Rattle.command_parts.specs.declared.refusal.Refusal.{Refusal}
use Rattle.command_parts.specs.declared.refusal.Refusal.TheVariants as refusal
use Rattle.command_parts.specs.declared.status.Status.{Status}
use Rattle.command_parts.specs.declared.status.Status.TheVariants as status
use Rattle.command_parts.specs.Bundles.{IsInFile}
use Rattle.command_parts.specs.NoRun.{IsRefused, LineFailed}
use Rattle.command_parts.specs.Outside.{OnlyRead, Outside, Output}
use Rattle.command_parts.specs.Refusal.{numbered_line, refusal_line}
use Rattle.image_commands.specs.Showing.{IsShown, IsShownInPart}
use Rattle.image_commands.specs.Writing.{FileFailed, HasWritten, LastLineFailed}

-- the bytes of version 2 of a bundle
abbrev pub version_2 : Bundle → List ℕ
version_2 b = bundle_bytes 2 b

-- They are made only if they are not too large for a file, and else that is the reason to refuse the bundle.
abbrev pub MakesVersion2 : Bundle → Result (Vec ℕ Global) Refusal → Type 0
MakesVersion2 b (Ok bytes) = (bytes.items ≡ version_2 b) × (length (version_2 b) ≤ largest_bundle)
MakesVersion2 b (Err (refusal.BadBundle fault)) = (fault ≡ faults.TooLarge 0) × (largest_bundle < length (version_2 b))
MakesVersion2 b (Err refusal.NoMemory) = Unit {0}
MakesVersion2 b (Err other) = ⊥

-- the line that tells how many they are
abbrev pub upgraded_line : Bundle → List ℕ
upgraded_line b = numbered_line (codes "upgraded ") (length (version_2 b))

-- the line of a file that is too large to be a bundle
abbrev pub too_large_line : List ℕ
too_large_line = refusal_line (refusal.BadBundle (faults.TooLarge 0))

-- the answer of writing version 2 of this bundle to the file of this name
abbrev pub WritesUpgrade : {S O : Type 0} → List ℕ → Bundle → Outside S O → Outside S O → Status → Type 0
WritesUpgrade new_name b before after status.Done = HasWritten (version_2 b) new_name (upgraded_line b) before after
WritesUpgrade new_name b before after status.WriteFault =
    FileFailed (version_2 b) new_name before after
    ⊎ LastLineFailed (version_2 b) new_name (upgraded_line b) before after
WritesUpgrade new_name b before after answer = ⊥

-- The file of the old name is a bundle, and not too large in version 2, which was written to the new one; and then its line
-- was shown.
pub record HasUpgraded {S O : Type 0} (old_name new_name : List ℕ) (before after : Outside S O) : Type 0 where
  pub bundle : Bundle
  pub file : IsInFile (before.files.held old_name) bundle
  pub fits : length (version_2 bundle) ≤ largest_bundle
  pub written : WritesUpgrade new_name bundle before after status.Done

-- The same, but version 2 could not be written, or its line not be shown whole.
pub record FailsToUpgrade {S O : Type 0} (old_name new_name : List ℕ) (before after : Outside S O) : Type 0 where
  pub bundle : Bundle
  pub file : IsInFile (before.files.held old_name) bundle
  pub fits : length (version_2 bundle) ≤ largest_bundle
  pub fails : WritesUpgrade new_name bundle before after status.WriteFault

-- The file of the old name is a bundle whose version 2 would be too large. No file was written, and this became of the
-- output.
pub record IsTooLarge {S O : Type 0} (old_name : List ℕ) (Shows : Output O → Output O → List ℕ → Type 0)
    (before after : Outside S O) : Type 0 where
  pub bundle : Bundle
  pub file : IsInFile (before.files.held old_name) bundle
  pub large : largest_bundle < length (version_2 bundle)
  pub files : OnlyRead before.files after.files
  pub shown : Shows before.output after.output too_large_line

-- What each status says. Only want of memory may come instead of another, before anything is written.
abbrev pub UpgradeAnswers : {S O : Type 0} → (old_name new_name : List ℕ) → Outside S O → Outside S O → Status → Type 0
UpgradeAnswers old_name new_name before after status.Done = HasUpgraded old_name new_name before after
UpgradeAnswers old_name new_name before after status.BadBundle =
    IsRefused (spec.Upgrade old_name new_name) status.BadBundle before after ⊎ IsTooLarge old_name IsShown before after
UpgradeAnswers old_name new_name before after status.ReadFault =
    IsRefused (spec.Upgrade old_name new_name) status.ReadFault before after
UpgradeAnswers old_name new_name before after status.NoMemory =
    IsRefused (spec.Upgrade old_name new_name) status.NoMemory before after
UpgradeAnswers old_name new_name before after status.WriteFault =
    LineFailed (spec.Upgrade old_name new_name) before after
    ⊎ (IsTooLarge old_name IsShownInPart before after ⊎ FailsToUpgrade old_name new_name before after)
UpgradeAnswers old_name new_name before after answer = ⊥
