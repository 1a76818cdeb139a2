-- A file above the largest bundle.
use Rattle.std.proofs.Common.{◌≡◌, ◌<◌, ◌≤◌, ◌+◌, ◌∙◌, ℕ, min, true, List, length, take, refl, ap, arith, Option, Some}
use Rattle.std.proofs.Common.{None}
use Rattle.std.proofs.Common.{IfSome}
use Rattle.std.proofs.lemmas.Bool.Decides.{nat_tests}
use Rattle.std.proofs.lemmas.List.{length-take, take_all}
use Rattle.std.specs.Prelude.{nat_lt}
use Rattle.cloak_base.specs.Constants.{largest_bundle}
use Rattle.cloak_model.specs.BundleFault.{bundle_fault}
use Rattle.cloak_model.specs.declared.fault.BundleFault.TheVariants.{TooLarge}

-- a file above the largest
above : (file : List ℕ) → largest_bundle < length file → bundle_fault file ≡ Some (TooLarge 0)
unfolding bundle_fault
above file large = let yes : nat_lt largest_bundle (length file) ≡ true = grind (arith, nat_tests) in rw yes refl

-- a front that is longer than a bundle may be
pub too_large : (told : Option (List ℕ)) (front : List ℕ) →
    IfSome told (λ file. front ≡ take (largest_bundle + 1) file) → largest_bundle < length front →
    IfSome told (λ file. bundle_fault file ≡ Some (TooLarge 0))
too_large (Some file) front is_front large =
    let long : length front ≡ min (largest_bundle + 1) (length file) =
    ap (λ (x : List ℕ). length x) is_front ∙ length-take (largest_bundle + 1) file in
    above file (omega (arith, long, large))
too_large None front is_front large = tt

-- a front that is not that long is the file
pub whole : (told : Option (List ℕ)) (front : List ℕ) →
    IfSome told (λ file. front ≡ take (largest_bundle + 1) file) → length front ≤ largest_bundle →
    IfSome told (λ file. front ≡ file)
whole (Some file) front is_front few =
    let long : length front ≡ min (largest_bundle + 1) (length file) =
    ap (λ (x : List ℕ). length x) is_front ∙ length-take (largest_bundle + 1) file in
    is_front ∙ take_all (largest_bundle + 1) file (omega (arith, long, few))
whole None front is_front few = tt
