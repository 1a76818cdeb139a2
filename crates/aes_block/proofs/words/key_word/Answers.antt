use Rattle.aes_block.specs.Word.{column_of_word}
use Rattle.aes_block.specs.RoundKey.{rotated_word}
use Rattle.aes_block.proofs.WordRounds.{look_up, key_lookup}
use Rattle.aes_block.proofs.words.key_word.Goals as goal

pub returns : goal.returns
unfolding look_up rotated_word column_of_word
returns c =
    rw (c.byte_0.ensures, c.byte_1.ensures, c.byte_2.ensures, c.byte_3.ensures) (key_lookup c.args.w)
