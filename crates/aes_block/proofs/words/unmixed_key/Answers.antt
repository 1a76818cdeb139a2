use Rattle.std.proofs.Common.{◌∙◌, refl}
use Rattle.aes_block.specs.Word.{block_of_words}
use Rattle.aes_block.proofs.WordRounds.{mix_columns-from_columns}
use Rattle.aes_block.proofs.words.unmixed_key.Goals as goal

pub returns : goal.returns
unfolding block_of_words
returns c =
    mix_columns-from_columns _ _ _ _
    ∙ rw (
      c.unmixed_key_word.ensures,
      c.unmixed_key_word-2.ensures,
      c.unmixed_key_word-3.ensures,
      c.unmixed_key_word-4.ensures,
    )
    refl
