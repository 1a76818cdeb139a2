use Rattle.std.proofs.Common.{◌∙◌, sym}
use Rattle.aes_block.proofs.cipher.KeySchedule.decrypt_block.Goals as goal

pub returns-clause-enciphers_back : goal.returns-clause-enciphers_back
returns-clause-enciphers_back c =
    rw c.write_words.ensures (c.decrypt_words.ensures.enciphers_back ∙ c.words_of-s.ensures)

pub returns-clause-only_one : goal.returns-clause-only_one
returns-clause-only_one c = λ p bytes is.
    c.write_words.ensures ∙ c.decrypt_words.ensures.only_one p bytes (is ∙ sym c.words_of-s.ensures)
