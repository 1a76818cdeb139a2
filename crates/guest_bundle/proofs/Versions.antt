-- Both versions of a bundle are the same bundle.
use Rattle.std.proofs.Common.{◌≡◌, ℕ, ◌≤◌, List, length, refl, sym, ap}
use Rattle.cloak_base.specs.Constants.{largest_bundle}
use Rattle.cloak_model.specs.Bundle.{bundle_bytes, IsInGrammar, IsBundleIn, IsBundle}
use Rattle.cloak_model.specs.Run.{joint_run}
use Rattle.cloak_model.specs.Versions.{VersionsAgree}
use Rattle.cloak_model.specs.declared.image.Bundle.{Bundle}
use Rattle.guest_bundle.proofs.Only.{one_bundle}

-- what spells a bundle in version 2
pub is_second : (b : Bundle) (bytes : List ℕ) → IsInGrammar b → length (bundle_bytes 2 b) ≤ largest_bundle →
    bytes ≡ bundle_bytes 2 b → IsBundleIn 2 bytes b
is_second b bytes grammar small is = record {
  known = refl;
  spelled = sym is;
  in_grammar = grammar;
  of_version = λ e. absurd cc;
  fits = rw is small;
}

pub versions_agree : VersionsAgree
versions_agree = record {
  is_bundle = λ file b first small. is_second b (bundle_bytes 2 b) first.in_grammar small refl;
  same_run = λ file b again first second stream steps.
      let whole : IsBundle (bundle_bytes 2 b) b =
      (2, is_second b (bundle_bytes 2 b) first.in_grammar second.1.fits refl) in
      ap (λ x. joint_run x stream steps) (one_bundle (bundle_bytes 2 b) again b second whole);
}
