-- What `upgrade` results in if no call on files or output fails.
use Rattle.std.specs.Prelude.{ℕ, ◌≡◌, ◌≤◌, ◌<◌, ◌⊎◌, List, length}
use Rattle.cloak_base.specs.Constants.{largest_bundle}
use Rattle.cloak_model.specs.declared.image.Bundle.{Bundle}
use Rattle.command_parts.specs.declared.status.Status.{Status}
use Rattle.command_parts.specs.declared.status.Status.TheVariants as status
use Rattle.command_parts.specs.Outside.{Outside, NothingRose}
use Rattle.image_commands.specs.Upgrading.{UpgradeAnswers, too_large_line, upgraded_line, version_2}
use Rattle.image_commands.specs.Writing.{HasWritten}
use Rattle.completeness.specs.Asked.{IsBundleFile, OnlyLine, WantsMemory}

-- Version 2 of this bundle was written to the file of this name, and its line shown; or it would be too large, and nothing
-- was written.
pub data ComesToUpgrade {S O : Type 0} (new_name : List ℕ) (b : Bundle) (answer : Status) (before after : Outside S O) :
    Type 0 where
  Upgraded : length (version_2 b) ≤ largest_bundle → answer ≡ status.Done →
      HasWritten (version_2 b) new_name (upgraded_line b) before after → ComesToUpgrade new_name b answer before after
  TooLarge : largest_bundle < length (version_2 b) → answer ≡ status.BadBundle → OnlyLine too_large_line before after →
      ComesToUpgrade new_name b answer before after

-- If the file of the old name is this bundle, and no call fails, it was upgraded to the file of the new name, or is too
-- large for that, or there was no memory to begin with.
abbrev pub CompletesUpgrade : {S O : Type 0} → (old_name new_name : List ℕ) → Status → Outside S O → Outside S O → Type 0
CompletesUpgrade old_name new_name answer before after =
    (b : Bundle) → IsBundleFile before.files.held old_name b → NothingRose before after →
    WantsMemory answer before after ⊎ ComesToUpgrade new_name b answer before after

abbrev pub UpgradesAreComplete : (S O : Type 0) → Type 0
UpgradesAreComplete S O =
    (old_name new_name : List ℕ) (answer : Status) (before after : Outside S O) →
    UpgradeAnswers old_name new_name before after answer → CompletesUpgrade old_name new_name answer before after
