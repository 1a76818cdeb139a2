use Rattle.std.proofs.Common.{◌≡◌, arith}
use Rattle.aes_block.specs.Word.{block_of_words}
use Rattle.aes_cbc.proofs.Chains.{sealed_start, sealed_more, sealed_end}
use Rattle.aes_cbc.proofs.seal_page.Goals as goal

pub loop-j-init : goal.loop-j-init
loop-j-init c = rw c.words_of-last.ensures (sealed_start _ _ _ c.told-p)

pub loop-j-preserved : goal.loop-j-preserved
loop-j-preserved c =
    let made = rw c.block_at-block.ensures at c.seal_block.ensures.sealed in
    rw c.seal_block.ensures.next (sealed_more _ _ _ _ _ _ _ (omega arith) c.loop-j.invariant made c.put_block.ensures)

pub returns : goal.returns
returns c =
    let e : c.loop-j.j ≡ 256 = omega arith in
    sealed_end _ _ _ (block_of_words c.loop-j.last) (rw e at c.loop-j.invariant)
