use Rattle.aes_block.proofs.TableRules.{constants_table}
use Rattle.aes_block.proofs.WordRounds.{next_words, next_key-words}
use Rattle.aes_block.proofs.words.next_key.Goals as goal

pub returns : goal.returns
unfolding next_words
returns c = next_key-words c.args.j c.args.k.now _ _ c.key_word.ensures (constants_table c.args.j c.requires)
