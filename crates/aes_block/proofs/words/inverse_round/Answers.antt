use Rattle.aes_block.proofs.WordRounds.{unmixed_words_back}
use Rattle.aes_block.proofs.words.inverse_round.Goals as goal

pub returns : goal.returns
returns c =
    unmixed_words_back c.args.s.now c.args.k.now _ _ _ _ c.unmixed_word.ensures c.unmixed_word-2.ensures
    c.unmixed_word-3.ensures c.unmixed_word-4.ensures
