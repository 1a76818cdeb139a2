use Rattle.std.proofs.lemmas.List.{take_all}
use Rattle.joint_machine.proofs.Thaws.{get_there, next_fresh, next_page, restores_all, restores_next, restores_start}
use Rattle.joint_machine.proofs.thawing.restore_recorded.Goals as goal

pub loop-p-init : goal.loop-p-init
loop-p-init c = restores_start c.args.pager.now c.args.recorded.now c.requires.fresh

pub restore-requires-clause-page : goal.restore-requires-clause-page
restore-requires-clause-page c =
    next_page c.args.pager.now c.loop-p.pager c.args.recorded.now c.loop-p.p-index _ c.loop-p.invariant c.requires.pages
    (get_there c.args.recorded.now c.loop-p.p-index _ c.loop-p-test.true)

pub restore-requires-clause-fresh : goal.restore-requires-clause-fresh
restore-requires-clause-fresh c =
    next_fresh c.args.pager.now c.loop-p.pager c.args.recorded.now c.loop-p.p-index _ c.loop-p.invariant c.requires.rising
    c.requires.fresh (get_there c.args.recorded.now c.loop-p.p-index _ c.loop-p-test.true)

pub loop-p-preserved : goal.loop-p-preserved
loop-p-preserved c =
    restores_next c.args.pager.now c.loop-p.pager c.restore.new.self c.args.recorded.now c.loop-p.p-index _ c.loop-p.invariant
    c.requires.rising (get_there c.args.recorded.now c.loop-p.p-index _ c.loop-p-test.true) c.restore.ensures.state

pub returns : goal.returns
returns c =
    restores_all c.args.pager.now c.loop-p.pager c.args.recorded.now c.loop-p.p-index c.loop-p.invariant
    (take_all c.loop-p.p-index c.args.recorded.now c.loop-p-test.false)
