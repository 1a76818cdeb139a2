use Rattle.std.proofs.Common.{◌∙◌}
use Rattle.aes_block.proofs.WordSums.{two_words_bytes}
use Rattle.aes_block.proofs.words.two_words.Goals as goal

pub returns : goal.returns
returns c =
    c.to_le_bytes.ensures
    ∙ rw (c.from.ensures, c.from-2.ensures)
    (two_words_bytes c.args.w c.args.x c.ranges.w.fits c.ranges.x.fits)
