use Rattle.std.proofs.Common.{◌∙◌, arith}
use Rattle.word_text.proofs.Lengths.{two_digits}
use Rattle.word_text.proofs.pieces.add_decimal.Goals as goal

pub add-requires : goal.add-requires
add-requires c =
    let few = rw (← (c.as_bytes.ensures.value ∙ c.format.ensures.text)) at (two_digits c.args.n c.requires.small) in
    record { fits = omega (arith, few, c.requires.fits) }

pub returns-clause-len : goal.returns-clause-len
returns-clause-len c =
    let few = rw (← (c.as_bytes.ensures.value ∙ c.format.ensures.text)) at (two_digits c.args.n c.requires.small) in
    omega (arith, few, c.add.ensures.len)
