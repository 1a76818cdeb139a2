use Rattle.aes_block.proofs.WordRounds.{words_back}
use Rattle.aes_block.proofs.words.last_inverse_round.Goals as goal

pub returns : goal.returns
returns c =
    words_back c.args.s.now c.args.k.now _ _ _ _ c.unsubstituted_word.ensures c.unsubstituted_word-2.ensures
    c.unsubstituted_word-3.ensures c.unsubstituted_word-4.ensures
