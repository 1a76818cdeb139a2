-- A bundle that leaves some room in the largest file.
use Rattle.std.proofs.Common.{◌≡◌, ◌+◌, ◌≤◌, ◌<◌, ℕ, Bool, true, false, not, length, Option, Some, None, is_some, MatchOption, Result, Ok, Err, refl, arith}
use Rattle.cloak_base.specs.Constants.{largest_bundle}
use Rattle.cloak_model.specs.declared.image.Bundle.{Bundle}
use Rattle.cloak_model.specs.Bundle.{bundle_bytes}
use Rattle.manifest.specs.declared.key.Key.TheVariants.{Segment}
use Rattle.manifest.specs.declared.key.ManifestTable.TheVariants.{Image}
use Rattle.manifest.specs.declared.fault.KeyFault.TheVariants.{TooLarge}
use Rattle.manifest.specs.Fields.{wrong_at}
use Rattle.manifest.specs.Parts.{fitting}
use Rattle.manifest.proofs.Files.{larger, not_larger}
use Rattle.std.proofs.lemmas.List.Folds.{length-flat_map-take}

-- something is left
pub fits : (room : Option ℕ) (size most : ℕ) (none : Bool) → MatchOption room (most < size) (λ left. size + left ≡ most) →
    is_some room ≡ not none → none ≡ false → size ≤ most
fits (Some left) size most none room told some = omega (arith, room)
fits None size most true room told some = absurd cc
fits None size most false room told some = absurd cc

-- nothing is left
pub fits_not : (room : Option ℕ) (size most : ℕ) (none : Bool) → MatchOption room (most < size) (λ left. size + left ≡ most) →
    is_some room ≡ not none → none ≡ true → most < size
fits_not None size most none room told gone = room
fits_not (Some left) size most true room told gone = absurd cc
fits_not (Some left) size most false room told gone = absurd cc

pub is_fitting : (b : Bundle) → length (bundle_bytes 2 b) ≤ largest_bundle → fitting b ≡ Ok b
unfolding fitting
is_fitting b small = rw (not_larger (length (bundle_bytes 2 b)) largest_bundle small) refl

pub not_fitting : (b : Bundle) → largest_bundle < length (bundle_bytes 2 b) →
    fitting b ≡ Err (wrong_at Image Segment TooLarge)
unfolding fitting
not_fitting b large = rw (larger (length (bundle_bytes 2 b)) largest_bundle large) refl

-- what a front of elements and the next one come to
pub ruleset fronts = (length-flat_map-take)
