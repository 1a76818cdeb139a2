use Rattle.std.proofs.Common.{subst, sym, ◌∙◌, ℕ, List}
use Rattle.aes_block.specs.Word.{block_of_words}
use Rattle.aes_block.proofs.WordRounds.{IsBytes-block_of_words}
use Rattle.aes_cbc.specs.Opened.{IsOpened}
use Rattle.aes_cbc.proofs.Chains.{opened_block}
use Rattle.aes_cbc.proofs.open_block.Goals as goal

pub returns-clause-opened : goal.returns-clause-opened
returns-clause-opened c =
    subst (λ (b : List ℕ). IsOpened c.args.k.now (block_of_words c.args.last.now) c.args.block.now b)
    (sym (c.write_words.ensures ∙ c.add_words.ensures))
    (opened_block c.args.k.now (block_of_words c.args.last.now) c.args.block.now _ (IsBytes-block_of_words _).long
    (IsBytes-block_of_words c.args.last.now)
    (c.decrypt_words.ensures.enciphers_back ∙ c.words_of-sealed.ensures)
    (λ p b is. c.decrypt_words.ensures.only_one p b (is ∙ sym c.words_of-sealed.ensures)))
