use Rattle.aes_block.specs.Word.{gathered, column_of_word}
use Rattle.aes_block.proofs.WordRounds.{look_up_keyed, substituted_gathered}
use Rattle.aes_block.proofs.words.substituted_word.Goals as goal

pub returns : goal.returns
unfolding look_up_keyed gathered column_of_word
returns c =
    rw (c.byte_0.ensures, c.byte_1.ensures, c.byte_2.ensures, c.byte_3.ensures)
    (substituted_gathered c.args.w c.args.x c.args.y c.args.z c.args.k)
