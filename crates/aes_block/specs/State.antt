-- The state of FIPS 197, 3.4: a block of 16 bytes, where the byte in row r and column c stands at place r + 4c. The
-- steps of a round, 5.1.1 to 5.1.4.
use Rattle.std.specs.Prelude.{ℕ, ◌+◌, ◌*◌, ◌/◌, ◌%◌, List, ◌++◌, map, slice_index, bit_xor}
use Rattle.std.specs.List.{range_with_len}
use Rattle.aes_block.specs.SBox.{s_box}
use Rattle.aes_block.specs.Column.{Column, column_bytes, mixed}

-- the block with this byte at each place
unfoldable pub from_places : (ℕ → ℕ) → List ℕ
from_places f = map f (range_with_len 0 16)

-- column c
unfoldable pub column_of : List ℕ → ℕ → Column
column_of s c = record {
  first = slice_index s (4 * c);
  second = slice_index s (4 * c + 1);
  third = slice_index s (4 * c + 2);
  fourth = slice_index s (4 * c + 3);
}

-- the block of these columns
unfoldable pub from_columns : Column → Column → Column → Column → List ℕ
from_columns w x y z = column_bytes w ++ (column_bytes x ++ (column_bytes y ++ column_bytes z))

-- the S-box on each byte
unfoldable pub sub_bytes : List ℕ → List ℕ
sub_bytes s = from_places (λ i. s_box (slice_index s i))

-- row r moves left by r
unfoldable pub shift_rows : List ℕ → List ℕ
shift_rows s = from_places (λ i. slice_index s (i % 4 + 4 * ((i / 4 + i % 4) % 4)))

-- each column, mixed
unfoldable pub mix_columns : List ℕ → List ℕ
mix_columns s =
    from_columns (mixed (column_of s 0)) (mixed (column_of s 1)) (mixed (column_of s 2)) (mixed (column_of s 3))

-- the sum of two blocks
unfoldable pub block_sum : List ℕ → List ℕ → List ℕ
block_sum s t = from_places (λ i. bit_xor (slice_index s i) (slice_index t i))

-- the sum with a round key
abbrev pub add_round_key : List ℕ → List ℕ → List ℕ
add_round_key k s = block_sum s k
