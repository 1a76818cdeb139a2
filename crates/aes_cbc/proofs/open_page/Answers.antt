use Rattle.std.proofs.Common.{◌≡◌, arith}
use Rattle.aes_block.specs.Word.{block_of_words}
use Rattle.aes_cbc.proofs.Chains.{opened_start, opened_more, opened_seals, opened_only}
use Rattle.aes_cbc.proofs.open_page.Goals as goal

pub loop-j-init : goal.loop-j-init
loop-j-init c = rw c.words_of-last.ensures (opened_start _ _ _ c.told-p)

pub loop-j-preserved : goal.loop-j-preserved
loop-j-preserved c =
    rw c.open_block.ensures.next
    (opened_more _ _ _ _ _ _ _ _ _ (omega arith) c.loop-j.invariant c.block_at-block.ensures c.open_block.array_long2 c.open_block.ensures.opened c.put_block.ensures)

pub returns-clause-seals_back : goal.returns-clause-seals_back
returns-clause-seals_back c =
    let e : c.loop-j.j ≡ 256 = omega arith in
    opened_seals _ _ _ _ (block_of_words c.loop-j.last) c.told-p (rw e at c.loop-j.invariant)

pub returns-clause-only_one : goal.returns-clause-only_one
returns-clause-only_one c =
    let e : c.loop-j.j ≡ 256 = omega arith in
    opened_only _ _ _ _ (block_of_words c.loop-j.last) (rw e at c.loop-j.invariant)
