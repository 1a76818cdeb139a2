-- The key expansion of FIPS 197, 5.2, for keys of four words. Round key j is words 4j to 4j + 3, as a block.
use Rattle.std.specs.Prelude.{ℕ, zero, suc, ◌+◌, ◌-◌, List}
use Rattle.aes_block.specs.Field.{power_of_x}
use Rattle.aes_block.specs.SBox.{s_box}
use Rattle.aes_block.specs.Column.{Column, column_sum}
use Rattle.aes_block.specs.State.{column_of, from_columns}

-- RotWord
unfoldable pub rotated_word : Column → Column
rotated_word w = record { first = w.second; second = w.third; third = w.fourth; fourth = w.first }

-- SubWord
unfoldable pub substituted_word : Column → Column
substituted_word w =
    record { first = s_box w.first; second = s_box w.second; third = s_box w.third; fourth = s_box w.fourth }

-- Rcon[j], from 1
unfoldable pub round_constant : ℕ → Column
round_constant j = record { first = power_of_x (j - 1); second = 0; third = 0; fourth = 0 }

-- round key j from the one before: each word is the sum of the one four before and the last; for the first of them
-- the last is rotated and substituted, and the round constant is added
unfoldable pub next_key : ℕ → List ℕ → List ℕ
next_key j k =
    let added = column_sum (substituted_word (rotated_word (column_of k 3))) (round_constant j) in
    let first = column_sum (column_of k 0) added in
    let second = column_sum (column_of k 1) first in
    let third = column_sum (column_of k 2) second in
    let fourth = column_sum (column_of k 3) third in
    from_columns first second third fourth

-- round key j of a key
unfoldable pub round_key : List ℕ → ℕ → List ℕ
round_key key zero = key
round_key key (suc j) = next_key (j + 1) (round_key key j)
