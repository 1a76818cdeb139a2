use Rattle.std.proofs.Common.{refl}
use Rattle.aes_block.specs.Column.{column_bytes}
use Rattle.aes_block.specs.State.{from_columns}
use Rattle.aes_block.specs.Word.{block_of_words}
use Rattle.aes_block.proofs.words.write_words.Goals as goal

pub returns : goal.returns
unfolding block_of_words from_columns column_bytes
returns c = rw (c.two_words-w.ensures, c.two_words-y.ensures) refl
