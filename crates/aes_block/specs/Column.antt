-- A column of the state, which is also a word of the key: four bytes.
use Rattle.std.specs.Prelude.{ℕ, List, [], ◌∷◌, bit_xor}
use Rattle.aes_block.specs.Field.{product}

pub record Column : Type 0 where
  pub first : ℕ
  pub second : ℕ
  pub third : ℕ
  pub fourth : ℕ

-- a column's bytes
unfoldable pub column_bytes : Column → List ℕ
column_bytes x = x.first ∷ x.second ∷ x.third ∷ x.fourth ∷ []

-- the sum of two columns
unfoldable pub column_sum : Column → Column → Column
column_sum x y = record {
  first = bit_xor x.first y.first;
  second = bit_xor x.second y.second;
  third = bit_xor x.third y.third;
  fourth = bit_xor x.fourth y.fourth;
}

unfoldable pub sum_of_four : ℕ → ℕ → ℕ → ℕ → ℕ
sum_of_four a b c d = bit_xor (bit_xor a b) (bit_xor c d)

-- one row of a matrix times a column
unfoldable pub row_times : ℕ → ℕ → ℕ → ℕ → Column → ℕ
row_times i j k l x =
    sum_of_four (product i x.first) (product j x.second) (product k x.third) (product l x.fourth)

-- the circulant with this first row, times a column
unfoldable pub circulant_times : ℕ → ℕ → ℕ → ℕ → Column → Column
circulant_times i j k l x = record {
  first = row_times i j k l x;
  second = row_times l i j k x;
  third = row_times k l i j x;
  fourth = row_times j k l i x;
}

-- FIPS 197, 5.1.3
unfoldable pub mixed : Column → Column
mixed x = circulant_times 2 3 1 1 x
