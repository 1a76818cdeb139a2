use Rattle.std.proofs.Common.{List, ℕ, ap, sym, ◌∙◌}
use Rattle.aes_block.specs.State.{block_sum, mix_columns}
use Rattle.aes_block.specs.Word.{block_of_words}
use Rattle.aes_block.proofs.WordRounds.{words_keyed, shift_rows-words, mix_columns-from_columns}
use Rattle.aes_block.proofs.words.round.Goals as goal

pub returns : goal.returns
returns c =
    words_keyed c.args.k.now _ _ _ _ _ _ _ _ c.mixed_word.ensures c.mixed_word-2.ensures c.mixed_word-3.ensures c.mixed_word-4.ensures
    ∙ ap (λ (b : List ℕ). block_sum b (block_of_words c.args.k.now)) (sym (ap mix_columns (shift_rows-words c.args.s.now) ∙ mix_columns-from_columns _ _ _ _))
