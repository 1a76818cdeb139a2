-- What a schedule holds.
use Rattle.std.specs.Prelude.{ℕ, ◌-◌, List, [], slice_index_or, ◌≡◌, ◌<◌}
use Rattle.aes_block.specs.State.{mix_columns}
use Rattle.aes_block.specs.RoundKey.{round_key}
use Rattle.aes_block.specs.Word.{block_of_words}

-- the block at a place of a list of words
abbrev pub key_at_place : List (List ℕ) → ℕ → List ℕ
key_at_place keys j = block_of_words (slice_index_or keys j [])

-- the eleven round keys of the first of these; and, from the last to the first, what mixes to the nine in the middle
pub record IsExpanded (keys inverse_keys : List (List ℕ)) : Type 0 where
  pub each : (j : ℕ) → j < 11 → key_at_place keys j ≡ round_key (key_at_place keys 0) j
  pub inverse_each : (j : ℕ) → j < 9 →
      mix_columns (key_at_place inverse_keys j) ≡ round_key (key_at_place keys 0) (9 - j)
