-- What is said of the words of a run that is frozen, or that goes on, is said of these.
use Rattle.std.proofs.Common.{◌≡◌, ℕ, subst}
use Rattle.command_words.specs.Command as spec

pub as_freeze : (P : spec.FreezeNames → ℕ → spec.Randomness → Type 0) (n m : spec.FreezeNames) (k l : ℕ)
    (x y : spec.Randomness) → spec.Freeze n k x ≡ spec.Freeze m l y → P m l y → P n k x
as_freeze P n m k l x y is p =
    let names : m ≡ n = cc in
    let steps : l ≡ k = cc in
    let from : y ≡ x = cc in
    subst (λ (a : spec.FreezeNames). P a k x) names
    (subst (λ (a : ℕ). P m a x) steps (subst (λ (a : spec.Randomness). P m l a) from p))

pub as_thaw : (P : spec.ThawNames → ℕ → spec.Randomness → Type 0) (n m : spec.ThawNames) (k l : ℕ)
    (x y : spec.Randomness) → spec.Thaw n k x ≡ spec.Thaw m l y → P m l y → P n k x
as_thaw P n m k l x y is p =
    let names : m ≡ n = cc in
    let steps : l ≡ k = cc in
    let from : y ≡ x = cc in
    subst (λ (a : spec.ThawNames). P a k x) names
    (subst (λ (a : ℕ). P m a x) steps (subst (λ (a : spec.Randomness). P m l a) from p))
