-- How long numbers are.
use Rattle.std.proofs.Common.{ℕ, suc, ◌<◌, ◌≤◌, length, arith}
use Rattle.std.specs.Prelude.{decimal, ℤ, pos, negsuc}
use Rattle.std.specs.Fmt.{signed_decimal}
use Rattle.std.proofs.lemmas.Fmt.{length-decimal-le}
use Rattle.rv_isa.specs.Range.{FitsSigned}

pub two_digits : (n : ℕ) → n < 32 → length (decimal n) ≤ 2
two_digits n small = length-decimal-le 2 n (omega arith) (omega (arith, small)) (omega (arith, small))

pub four_digits : (n : ℕ) → n ≤ 2048 → length (decimal n) ≤ 4
four_digits n small = length-decimal-le 4 n (omega arith) (omega (arith, small)) (omega (arith, small))

pub five_signs : (z : ℤ) → FitsSigned 12 z → length (signed_decimal z) ≤ 5
five_signs (pos n) fits = let few = four_digits n (omega (arith, fits)) in omega (arith, few)
five_signs (negsuc n) fits = let few = four_digits (suc n) (omega (arith, fits)) in omega (arith, few)
