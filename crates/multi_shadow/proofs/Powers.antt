-- Powers of two: the least one that is a number or more, and a remainder by one.
use Rattle.std.proofs.Common.{◌≡◌, ◌+◌, ◌-◌, ◌*◌, ◌%◌, ◌^◌, ◌<◌, ◌≤◌, ℕ, bit_and, sym, ap, subst, arith, ◌∙◌}
use Rattle.std.proofs.Math.Nat.{mod-eq_of_lt}
use Rattle.std.proofs.lemmas.Grind.{pow_more}
use Rattle.std.proofs.lemmas.Nat.{and_mask, pow_below, pow_pos}
use Rattle.multi_shadow.specs.Placed.{IsPower}

pub power_some : (n : ℕ) → IsPower n → 0 < n
power_some n p = subst (λ m. 0 < m) (sym p.1) (pow_pos p.0)

pub power_part : (n power mask : ℕ) → IsPower power → mask ≡ power - 1 → bit_and n mask ≡ n % power
power_part n power mask p is =
    ap (bit_and n) (is ∙ ap (λ m. m - 1) p.1) ∙ (and_mask n p.0 ∙ ap (λ m. n % m) (sym p.1))

-- a power of two of less than 32 digits is shifted in with nothing lost
shifted : (r : ℕ) → r + 1 ≤ 31 → 1 * 2 ^ (r + 1) % 4294967296 ≡ 2 ^ (r + 1)
shifted r few =
    let below : 2 ^ (r + 1) < 2 ^ 32 = pow_below (r + 1) 32 (omega (arith, few)) in
    let once : 1 * 2 ^ (r + 1) ≡ 2 ^ (r + 1) = omega arith in
    ap (λ m. m % 4294967296) once ∙ mod-eq_of_lt below

pub power_over : (n r : ℕ) → n - 1 < 2 * 2 ^ r → r + 1 ≤ 31
    → (n ≤ 1 * 2 ^ (r + 1) % 4294967296) × IsPower (1 * 2 ^ (r + 1) % 4294967296)
power_over n r over few =
    let more : 2 ^ (r + 1) ≡ 2 ^ r * 2 = pow_more 2 r in
    let least : n ≤ 2 ^ (r + 1) = omega (arith, over, more) in
    (subst (λ m. n ≤ m) (sym (shifted r few)) least, (r + 1, shifted r few))

-- above 2^31 there is none of 32 digits
pub power_past : (n r : ℕ) → 2 ^ r ≤ n - 1 → r < 32 → 31 < r + 1 → 2 ^ 31 < n
power_past n r under few more =
    let last : r ≡ 31 = omega (arith, few, more) in
    let least : 2 ^ 31 ≤ n - 1 = subst (λ k. 2 ^ k ≤ n - 1) last under in
    omega (arith, least)
