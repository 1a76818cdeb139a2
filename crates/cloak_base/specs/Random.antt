-- A random stream, and its next draw of sixteen bytes.
use Rattle.std.specs.Prelude.{ℕ, List, ◌++◌, length, take, drop, Option, None, Some, nat_lt, if◌then◌else◌, replicate}
use Rattle.std.specs.Int.{w32, w64, to_le_bytes}
use Rattle.rand_core.specs.Steps.{word_bytes}
use Rattle.rand_chacha.specs.ChaCha.{ChaCha, next_word, of_seed}

-- the bytes that are left of those handed in, or the key stream of ChaCha20 from a place on
pub data Random : Type 0 where
  handed : List ℕ → Random
  keyed : ChaCha → Random

-- The next sixteen bytes, and the stream after them: none exactly if a stream of bytes has fewer than sixteen left. Of
-- a key stream a draw is four words, each with its lowest byte first.
unfoldable pub next_draw : Random → Option (List ℕ × Random)
next_draw (handed bytes) = if nat_lt (length bytes) 16 then None else Some (take 16 bytes, handed (drop 16 bytes))
next_draw (keyed g) = let four = word_bytes (to_le_bytes w32) (next_word 10) 4 g in Some (four.0, keyed four.1)

-- the stream of a number: ChaCha20 whose seed is the number in eight bytes, the lowest first, and 24 zeros
unfoldable pub numbered : ℕ → Random
numbered n = keyed (of_seed (to_le_bytes w64 n ++ replicate 24 0))
