use Rattle.aes_block.proofs.WordRounds.{unmixed_key_back}
use Rattle.aes_block.proofs.words.unmixed_key_word.Goals as goal

pub returns : goal.returns
returns c = unmixed_key_back c.args.w _ _ c.unmixed_word.ensures c.substituted_word-s.ensures
