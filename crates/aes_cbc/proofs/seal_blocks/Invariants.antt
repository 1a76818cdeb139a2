use Rattle.cloak_model.specs.Chain.{chained}
use Rattle.aes_block.specs.Word.{block_of_words}
use Rattle.aes_cbc.proofs.Chains.{AreSealedTo}
use Rattle.aes_cbc.proofs.seal_blocks.Given as goal

abbrev pub invariant-loop-block : goal.invariant-loop-block
invariant-loop-block l = AreSealedTo l.k (chained l.k l.iv l.fn.p) l.block-index l.p (block_of_words l.last)
