-- Both spellings of a bundle have the same joint run.
use Rattle.std.specs.Prelude.{ℕ, ◌≡◌, ◌≤◌, List, length}
use Rattle.cloak_base.specs.Constants.{largest_bundle}
use Rattle.cloak_base.specs.Random.{Random}
use Rattle.cloak_model.specs.declared.image.Bundle.{Bundle}
use Rattle.cloak_model.specs.Bundle.{IsBundle, IsBundleIn, bundle_bytes}
use Rattle.cloak_model.specs.Run.{joint_run}

-- Version 2 of what a file of version 1 spells.
pub record VersionsAgree : Type 0 where
  -- it is a bundle, and the same one, unless it is too large
  pub is_bundle : (file : List ℕ) (b : Bundle) → IsBundleIn 1 file b → length (bundle_bytes 2 b) ≤ largest_bundle →
      IsBundleIn 2 (bundle_bytes 2 b) b
  -- what is read of it has the same joint run, for every stream and number of steps
  pub same_run : (file : List ℕ) (b again : Bundle) → IsBundleIn 1 file b → IsBundle (bundle_bytes 2 b) again →
      (stream : Random) (steps : ℕ) → joint_run again stream steps ≡ joint_run b stream steps
