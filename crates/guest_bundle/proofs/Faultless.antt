-- A bundle has no fault.
use Rattle.std.proofs.Common.{◌≡◌, ◌∙◌, ℕ, List, Some, None, Result, sym, subst}
use Rattle.cloak_model.specs.declared.fault.BundleFault.{BundleFault}
use Rattle.cloak_model.specs.declared.image.Bundle.{Bundle}
use Rattle.cloak_model.specs.Bundle.{IsBundle}
use Rattle.cloak_model.specs.BundleFault.{bundle_fault}
use Rattle.guest_bundle.proofs.Tells.{Tells}
use Rattle.guest_bundle.proofs.Faulty.{bundle_tells}
use Rattle.guest_bundle.proofs.Only.{bundle_again}

pub no_fault : (bytes : List ℕ) (b : Bundle) (fault : BundleFault) → IsBundle bytes b → bundle_fault bytes ≡ Some fault → ⊥
no_fault bytes b fault is faulty =
    let none : bundle_fault bytes ≡ None =
    subst (λ (r : Result Bundle BundleFault). Tells r (bundle_fault bytes)) (bundle_again bytes b is) (bundle_tells bytes)
    in
    let clash : None ≡ Some fault = sym none ∙ faulty in absurd cc
