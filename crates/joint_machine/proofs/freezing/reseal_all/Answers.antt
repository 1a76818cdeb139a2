use Rattle.std.proofs.Common.{arith}
use Rattle.joint_machine.proofs.Freezes.{reseals_all, reseals_lend, reseals_next, reseals_none}
use Rattle.joint_machine.proofs.freezing.reseal_all.Goals as goal

pub loop-f-init : goal.loop-f-init
loop-f-init c = reseals_none c.args.pager.now c.args.s.now

pub reseal-requires : goal.reseal-requires
reseal-requires c = omega (arith, c.loop-f-test.true, c.count-f-end.ensures.value, c.loop-f.invariant.count)

pub loop-f-preserved : goal.loop-f-preserved
loop-f-preserved c =
    let done = c.reseal.ensures in
    reseals_next c.args.pager.now c.loop-f.pager c.reseal.new.pager c.args.s.now c.loop-f.s c.reseal.new.s c.loop-f.f
    c.loop-f.invariant done.stays done.owed done.held done.stream done.stands

pub returns-clause-settled : goal.returns-clause-settled
returns-clause-settled c =
    reseals_all c.args.pager.now c.loop-f.pager c.args.s.now c.loop-f.s c.loop-f.f c.loop-f.invariant c.whole.ensures
    (omega (arith, c.loop-f-test.false, c.count-f-end.ensures.value, c.loop-f.invariant.count))

pub returns-clause-lends : goal.returns-clause-lends
returns-clause-lends c m lends same =
    reseals_lend c.args.pager.now c.loop-f.pager c.args.s.now c.loop-f.s c.loop-f.f c.loop-f.invariant m lends same
