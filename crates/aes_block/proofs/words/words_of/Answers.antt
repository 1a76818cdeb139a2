use Rattle.std.proofs.Common.{◌<◌}
use Rattle.std.proofs.lemmas.List.Elements.{All-from_get_or}
use Rattle.aes_block.specs.Column.{column_bytes}
use Rattle.aes_block.specs.State.{column_of}
use Rattle.aes_block.proofs.WordRounds.{block_of_words-two}
use Rattle.aes_block.proofs.words.words_of.Goals as goal

pub returns : goal.returns
unfolding column_bytes column_of
returns c =
    rw (c.low_word.ensures, c.high_word.ensures, c.low_word-2.ensures, c.high_word-2.ensures)
    (block_of_words-two c.args.b.now _ _
    (record { long = c.told-b; bytes = All-from_get_or (λ x. x < 256) c.args.b.now 0 (λ i h. c.fits-b i) })
    c.from_le_bytes-front.ensures c.from_le_bytes-back.ensures)
