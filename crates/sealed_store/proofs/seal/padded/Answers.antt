use Rattle.std.proofs.Common.{◌≡◌, ◌∙◌, ℕ, suc, ◌+◌, length, ap, arith}
use Rattle.sealed_store.proofs.Padding.{row, row_more, row_end, zero_xor}
use Rattle.sealed_store.proofs.seal.padded.Goals as goal

pub returns : goal.returns
returns c =
    let last : c.loop-i.i ≡ length c.args.key.now = omega arith in
    c.loop-i.invariant
    ∙ ap (λ (k : ℕ). row c.args.pad 64 k c.args.key.now) last
    ∙ row_end c.args.pad 64 c.args.key.now (zero_xor c.args.pad) c.requires

pub loop-i-preserved : goal.loop-i-preserved
loop-i-preserved c =
    let next : suc c.loop-i.i ≡ c.loop-i.i + 1 = omega arith in
    rw c.loop-i.invariant (row_more c.args.pad 64 c.loop-i.i c.args.key.now (omega arith) (omega arith)
    ∙ ap (λ (k : ℕ). row c.args.pad 64 k c.args.key.now) next)
