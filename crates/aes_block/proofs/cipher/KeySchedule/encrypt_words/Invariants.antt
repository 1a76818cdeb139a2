use Rattle.std.proofs.Common.{◌≡◌}
use Rattle.aes_block.specs.Cipher.{after_rounds}
use Rattle.aes_block.specs.Word.{block_of_words}
use Rattle.aes_block.proofs.cipher.KeySchedule.encrypt_words.Given as goal

abbrev pub invariant-loop-j : goal.invariant-loop-j
invariant-loop-j l = block_of_words l.s ≡ after_rounds l.self l.j (block_of_words l.fn.s)
