use Rattle.aes_block.specs.Word.{block_of_words}
use Rattle.aes_cbc.proofs.Chains.{IsOpenedTo}
use Rattle.aes_cbc.proofs.open_page.Given as goal

abbrev pub invariant-loop-j : goal.invariant-loop-j
invariant-loop-j l = IsOpenedTo l.k l.iv l.fn.p l.j l.p (block_of_words l.last)
