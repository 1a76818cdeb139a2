-- The first block of a disk with a digest.
use Rattle.std.proofs.Common.{◌∙◌, ◌<◌, ℕ, List, length, Some, None, refl, sym, subst, arith}
use Rattle.cloak_model.specs.HostCalls.{block_at}
use Rattle.alone_files.specs.Finding.{AreDigests, IsFirstDigest}
use Rattle.alone_files.specs.Found.{IsFirstBlock}

pub missed : {disk digest : List ℕ} {digests : List (List ℕ)} → AreDigests disk digests →
    IsFirstDigest digests digest None → IsFirstBlock disk digest None
missed {disk} {digest} {digests} are none = λ k low same.
    let within : k < length digests = subst (λ (n : ℕ). k < n) (sym are.count) low in
    none k within (are.each k within ∙ same)

pub met : {disk digest : List ℕ} {digests : List (List ℕ)} (at : ℕ) → AreDigests disk digests →
    IsFirstDigest digests digest (Some at) → IsFirstBlock disk digest (Some (block_at disk at))
met {disk} {digest} {digests} at are first = (
  at,
  (
    subst (λ (n : ℕ). at < n) are.count first.0,
    (
      refl,
      (
        sym (are.each at first.0) ∙ first.1.0,
        λ k less same. first.1.1 k less (are.each k (let a = first.0 in omega (arith, less, a)) ∙ same),
      ),
    ),
  ),
)
