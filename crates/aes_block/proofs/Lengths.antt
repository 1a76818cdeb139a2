-- How long a block is that was encrypted.
use Rattle.std.proofs.Common.{◌≡◌, ℕ, List, length, refl}
use Rattle.aes_block.specs.Cipher.{encrypted}
use Rattle.aes_block.specs.State.{block_sum, from_places}

pub length-encrypted : (key s : List ℕ) → length (encrypted key s) ≡ 16
unfolding encrypted block_sum from_places
length-encrypted key s = refl
