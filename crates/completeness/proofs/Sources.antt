-- The image that a file tells, with its bytes and its version, is one.
use native.Mathlib.Omega.{arith}
use Rattle.std.proofs.Common.{◌≡◌, ◌∙◌, ◌⊎◌, ◌%◌, ℕ, true, List, get_or, Option, Some, refl, sym, ap, subst, inl, inr}
use Rattle.std.specs.Prelude.{◌==◌, IfSome}
use Rattle.std.proofs.lemmas.Bool.{eqb-true, or_cases}
use Rattle.cloak_model.specs.declared.image.Bundle.{Bundle}
use Rattle.cloak_model.specs.Bundle.{IsBundleIn, bundle_bytes, is_version}
use Rattle.guest_bundle.proofs.Only.{one_bundle}
use Rattle.command_parts.specs.Bundles.{IsInFileAs}

version_at : (version : ℕ) (b : Bundle) → get_or (bundle_bytes version b) 8 0 ≡ version % 256
unfolding bundle_bytes
version_at version b = refl

version_is : (version : ℕ) → is_version version ≡ true → (version ≡ 1) ⊎ (version ≡ 2)
version_is version known = elim (or_cases (version == 1) (version == 2) known) [
  | inl one ↦ inl (eqb-true version 1 one)
  | inr two ↦ inr (eqb-true version 2 two)
]

one_version : (bytes : List ℕ) (v w : ℕ) (a b : Bundle) → IsBundleIn v bytes a → IsBundleIn w bytes b → w ≡ v
one_version bytes v w a b first second =
    let same : w % 256 ≡ v % 256 =
    sym (version_at w b) ∙ (ap (λ (l : List ℕ). get_or l 8 0) (second.spelled ∙ sym first.spelled) ∙ version_at v a) in
    elim (version_is v first.known) [
      | inl one ↦ elim (version_is w second.known) [
        | inl here ↦ here ∙ sym one
        | inr there ↦ omega (arith, same, one, there)
      ]
      | inr two ↦ elim (version_is w second.known) [
        | inl here ↦ omega (arith, same, two, here)
        | inr there ↦ there ∙ sym two
      ]
    ]

-- these are one image
pub record IsOneImage (v w : ℕ) (bytes others : List ℕ) (a b : Bundle) : Type 0 where
  pub version : w ≡ v
  pub bytes_are : others ≡ bytes
  pub bundle : b ≡ a

pub one_image : {told : Option (List ℕ)} {v w : ℕ} {bytes others : List ℕ} {a b : Bundle} → told ≡ Some bytes →
    IsBundleIn v bytes a → IsInFileAs w told others b → IsOneImage v w bytes others a b
one_image {told} {v} {w} {bytes} {others} {a} {b} tells first in_file =
    let same : others ≡ bytes =
    sym (subst (λ (o : Option (List ℕ)). IfSome o (λ known. known ≡ others)) tells in_file.file) in
    let second : IsBundleIn w bytes b = subst (λ (l : List ℕ). IsBundleIn w l b) same in_file.is in
    record {
      version = one_version bytes v w a b first second;
      bytes_are = same;
      bundle = one_bundle bytes b a (w, second) (v, first);
    }
