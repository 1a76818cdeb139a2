-- A column as a word of 32 bits whose lowest byte is the column's first.
use Rattle.std.specs.Prelude.{ℕ, ◌/◌, ◌%◌, List, slice_index}
use Rattle.aes_block.specs.Column.{Column}
use Rattle.aes_block.specs.State.{from_columns}

-- the column of a word's bytes
unfoldable pub column_of_word : ℕ → Column
column_of_word w = record {
  first = w % 256;
  second = w / 256 % 256;
  third = w / 65536 % 256;
  fourth = w / 16777216 % 256;
}

-- the block of four words
unfoldable pub block_of_words : List ℕ → List ℕ
block_of_words s =
    from_columns (column_of_word (slice_index s 0)) (column_of_word (slice_index s 1))
    (column_of_word (slice_index s 2)) (column_of_word (slice_index s 3))

-- one byte of each word, from the first byte of the first to the fourth of the fourth
unfoldable pub gathered : ℕ → ℕ → ℕ → ℕ → Column
gathered w x y z = record {
  first = (column_of_word w).first;
  second = (column_of_word x).second;
  third = (column_of_word y).third;
  fourth = (column_of_word z).fourth;
}
