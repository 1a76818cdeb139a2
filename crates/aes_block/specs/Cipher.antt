-- AES-128 (FIPS 197, 5.1) on a block under a key of 16 bytes.
use Rattle.std.specs.Prelude.{ℕ, zero, suc, ◌+◌, List}
use Rattle.aes_block.specs.State.{sub_bytes, shift_rows, mix_columns, add_round_key}
use Rattle.aes_block.specs.RoundKey.{round_key}

-- the state after the first addition and j rounds with all four steps
unfoldable pub after_rounds : List ℕ → ℕ → List ℕ → List ℕ
after_rounds key zero s = add_round_key (round_key key 0) s
after_rounds key (suc j) s =
    add_round_key (round_key key (j + 1)) (mix_columns (shift_rows (sub_bytes (after_rounds key j s))))

-- the block enciphered: the tenth round mixes no columns
unfoldable pub encrypted : List ℕ → List ℕ → List ℕ
encrypted key s = add_round_key (round_key key 10) (shift_rows (sub_bytes (after_rounds key 9 s)))
