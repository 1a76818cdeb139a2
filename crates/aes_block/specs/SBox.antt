-- The S-box of FIPS 197, 5.1.1.
use Rattle.std.specs.Prelude.{ℕ, zero, suc, ◌+◌, ◌*◌, ◌%◌, ◌^◌}
use Rattle.std.specs.Int.{bit_at}
use Rattle.aes_block.specs.Field.{inverse}

-- the number whose lowest k bits these are
unfoldable pub from_bits : (ℕ → ℕ) → ℕ → ℕ
from_bits bit zero = 0
from_bits bit (suc k) = from_bits bit k + bit k * 2 ^ k

-- bit i of the affine transformation of v
unfoldable pub affine_bit : ℕ → ℕ → ℕ
affine_bit v i =
    (bit_at v i + bit_at v ((i + 4) % 8) + bit_at v ((i + 5) % 8) + bit_at v ((i + 6) % 8)
    + bit_at v ((i + 7) % 8) + bit_at 0x63 i) % 2

-- the inverse in the field, then the affine transformation
unfoldable pub s_box : ℕ → ℕ
s_box b = from_bits (affine_bit (inverse b)) 8
