-- One step back along a chain.
use Rattle.std.specs.Prelude.{ℕ, List, ◌≡◌}
use Rattle.aes_block.specs.Bytes.{IsBytes}
use Rattle.aes_block.specs.State.{block_sum}
use Rattle.aes_block.specs.Cipher.{encrypted}

-- the plain block of the cipher block that follows `last`: chained again it gives that block, and no other block does
pub record IsOpened (key last sealed plain : List ℕ) : Type 0 where
  pub back : encrypted key (block_sum plain last) ≡ sealed
  pub only : (p : List ℕ) → IsBytes 16 p → encrypted key (block_sum p last) ≡ sealed → plain ≡ p
