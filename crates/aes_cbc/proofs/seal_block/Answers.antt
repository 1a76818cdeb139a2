use Rattle.std.proofs.Common.{refl, sym}
use Rattle.aes_cbc.proofs.seal_block.Goals as goal

pub returns-clause-sealed : goal.returns-clause-sealed
returns-clause-sealed c =
    rw (c.write_words.ensures, c.encrypt_words.ensures.enciphered, c.add_words.ensures, c.words_of-s.ensures) refl

pub returns-clause-next : goal.returns-clause-next
returns-clause-next c = sym c.write_words.ensures
