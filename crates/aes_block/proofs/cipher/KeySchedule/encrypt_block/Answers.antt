use Rattle.std.proofs.Common.{◌∙◌, refl}
use Rattle.aes_block.proofs.cipher.KeySchedule.encrypt_block.Goals as goal

pub returns-clause-enciphered : goal.returns-clause-enciphered
returns-clause-enciphered c =
    rw (c.write_words.ensures, c.encrypt_words.ensures.enciphered, c.words_of-s.ensures) refl

pub returns-clause-only_one : goal.returns-clause-only_one
returns-clause-only_one c = λ p bytes is.
    c.encrypt_words.ensures.only_one p bytes (is ∙ c.write_words.ensures) ∙ c.words_of-s.ensures
