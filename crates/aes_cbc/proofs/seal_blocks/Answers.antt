use Rattle.std.proofs.Common.{arith}
use Rattle.aes_block.specs.Word.{block_of_words}
use Rattle.aes_cbc.proofs.Chains.{blocks_start, blocks_more, blocks_end}
use Rattle.aes_cbc.proofs.seal_blocks.Goals as goal

pub loop-block-init : goal.loop-block-init
loop-block-init c = rw c.words_of-last.ensures (blocks_start _ _ _)

pub loop-block-preserved : goal.loop-block-preserved
loop-block-preserved c = rw c.seal_block.ensures.next (blocks_more _ _ _ _ _ _ (omega arith) c.loop-block.invariant c.seal_block.ensures.sealed)

pub returns : goal.returns
returns c = blocks_end _ _ c.loop-block.block-index _ (block_of_words c.loop-block.last) (omega arith) c.loop-block.invariant
