use Rattle.cloak_model.specs.Chain.{cbc}
use Rattle.aes_block.specs.Word.{block_of_words}
use Rattle.aes_cbc.proofs.Chains.{IsSealedTo}
use Rattle.aes_cbc.proofs.seal_page.Given as goal

abbrev pub invariant-loop-j : goal.invariant-loop-j
invariant-loop-j l = IsSealedTo l.k (cbc l.k l.iv l.fn.p) l.j l.p (block_of_words l.last)
