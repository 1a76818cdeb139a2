-- The field of 256 elements of FIPS 197, section 4: polynomials over the bits, modulo x^8 + x^4 + x^3 + x + 1. An
-- element is a byte whose bit i is the coefficient of x^i (4), and the sum of two is their exclusive or (4.1).
use Rattle.std.specs.Prelude.{ℕ, zero, suc, ◌*◌, ◌/◌, ◌%◌, nat_eq, nat_lt, if◌then◌else◌, bit_xor, find, unwrap_or}
use Rattle.aes_block.specs.Bytes.{each_byte}

-- x times b: a shift, less the modulus 0x11b if x^8 appears
unfoldable pub times_x : ℕ → ℕ
times_x b = if nat_lt b 128 then b * 2 else bit_xor (b * 2) 0x11b

-- the sum of x^i times a over those of the lowest k bits i of b that are set
unfoldable pub product_of_bits : ℕ → ℕ → ℕ → ℕ
product_of_bits zero a b = 0
product_of_bits (suc k) a b = bit_xor (if nat_eq (b % 2) 1 then a else 0) (product_of_bits k (times_x a) (b / 2))

-- the product (4.2)
unfoldable pub product : ℕ → ℕ → ℕ
product a b = product_of_bits 8 a b

-- x to this power
unfoldable pub power_of_x : ℕ → ℕ
power_of_x zero = 1
power_of_x (suc n) = times_x (power_of_x n)

-- the byte whose product with a is 1, and 0 for 0
unfoldable pub inverse : ℕ → ℕ
inverse a = unwrap_or (find (λ b. nat_eq (product a b) 1) each_byte) 0
