use Rattle.std.proofs.Common.{List, ℕ, ap, sym, ◌∙◌}
use Rattle.aes_block.specs.State.{block_sum}
use Rattle.aes_block.specs.Word.{block_of_words}
use Rattle.aes_block.proofs.WordRounds.{words_keyed, shift_rows-words}
use Rattle.aes_block.proofs.words.last_round.Goals as goal

pub returns : goal.returns
returns c =
    words_keyed c.args.k.now _ _ _ _ _ _ _ _ c.substituted_word.ensures c.substituted_word-2.ensures
    c.substituted_word-3.ensures c.substituted_word-4.ensures
    ∙ ap (λ (b : List ℕ). block_sum b (block_of_words c.args.k.now)) (sym (shift_rows-words c.args.s.now))
