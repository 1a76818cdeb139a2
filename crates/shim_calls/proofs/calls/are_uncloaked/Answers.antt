use Rattle.std.proofs.Common.{ap, not, arith}
use Rattle.shim_calls.proofs.Buffers.{uncloaked_from-ends, first_told, second_told}
use Rattle.shim_calls.proofs.calls.are_uncloaked.Goals as goal

pub returns-then-not-first : goal.returns-then-not-first
returns-then-not-first c =
    second_told _ _ _ _ _ (ap not c.is_some-first.ensures) (ap not c.if-not-first.true) (ap not c.is_some-last.ensures)
    (uncloaked_from-ends c.args.r.now c.args.space c.args.start c.args.length _ _ c.requires.few (omega arith) c.lookup.ensures.whole_pages c.lookup-2.ensures.whole_pages)

pub returns-else-not-first : goal.returns-else-not-first
returns-else-not-first c =
    first_told _ _ _ _ (ap not c.is_some-first.ensures) (ap not c.if-not-first.false)
    (uncloaked_from-ends c.args.r.now c.args.space c.args.start c.args.length _ _ c.requires.few (omega arith) c.lookup.ensures.whole_pages c.lookup-2.ensures.whole_pages)
