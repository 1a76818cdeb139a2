use Rattle.aes_block.proofs.WordRounds.{block_of_words-sum}
use Rattle.aes_block.proofs.words.add_words.Goals as goal

pub returns : goal.returns
returns c = block_of_words-sum c.args.s.now c.args.other.now
