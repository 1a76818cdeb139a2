use Rattle.std.proofs.Common.{arith}
use Rattle.shim_calls.proofs.Buffers.{cloaked_from-ends, first_told, second_told}
use Rattle.shim_calls.proofs.calls.are_cloaked.Goals as goal

pub returns-then-first : goal.returns-then-first
returns-then-first c =
    second_told _ _ _ _ _ c.is_some-first.ensures c.if-first.true c.is_some-last.ensures
    (cloaked_from-ends c.args.r.now c.args.space c.args.start c.args.length _ _ c.requires.few (omega arith) c.lookup.ensures.whole_pages c.lookup-2.ensures.whole_pages)

pub returns-else-first : goal.returns-else-first
returns-else-first c =
    first_told _ _ _ _ c.is_some-first.ensures c.if-first.false
    (cloaked_from-ends c.args.r.now c.args.space c.args.start c.args.length _ _ c.requires.few (omega arith) c.lookup.ensures.whole_pages c.lookup-2.ensures.whole_pages)
