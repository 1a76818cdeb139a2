use Rattle.std.proofs.Common.{arith}
use Rattle.joint_machine.proofs.Thaws.{fills_all, fills_next, fills_none, fills_outside, get_there}
use Rattle.joint_machine.proofs.thawing.fill_frames.Goals as goal

pub loop-f-init : goal.loop-f-init
loop-f-init c = fills_none c.args.pager.now c.args.frames.now

pub fill_outside-requires-clause-inside : goal.fill_outside-requires-clause-inside
fill_outside-requires-clause-inside c = omega (arith, c.loop-f-test.true, c.loop-f.invariant.count, c.requires.count)

pub fill_outside-requires-clause-outside : goal.fill_outside-requires-clause-outside
fill_outside-requires-clause-outside c =
    fills_outside c.args.pager.now c.loop-f.pager c.args.frames.now c.loop-f.f c.loop-f.invariant c.requires.outside c.loop-f.f

pub loop-f-preserved : goal.loop-f-preserved
loop-f-preserved c =
    fills_next c.args.pager.now c.loop-f.pager c.fill_outside.new.self c.args.frames.now c.loop-f.f _ c.loop-f.invariant
    (omega (arith, c.loop-f-test.true, c.loop-f.invariant.count, c.requires.count))
    (get_there c.args.frames.now c.loop-f.f _ c.loop-f-test.true) c.fill_outside.ensures.state

pub returns : goal.returns
returns c = fills_all c.args.pager.now c.loop-f.pager c.args.frames.now c.loop-f.f c.loop-f.invariant c.loop-f-test.false
