use Rattle.std.proofs.Common.{arith}
use Rattle.thread_context.specs.Recorded.{root_at}
use Rattle.joint_machine.proofs.ThawedParts.{roots_all, roots_none, roots_put}
use Rattle.joint_machine.proofs.Thaws.{get_there}
use Rattle.joint_machine.proofs.thawing.thaw_roots.Goals as goal

pub loop-number-init : goal.loop-number-init
loop-number-init c = roots_none c.args.from.now (root_at c.open-roots.result) c.open-roots.ensures

pub put_roots-requires-clause-empty : goal.put_roots-requires-clause-empty
put_roots-requires-clause-empty c s here = c.loop-number.invariant.above s (omega (arith, here))

pub loop-number-preserved : goal.loop-number-preserved
loop-number-preserved c =
    roots_put c.args.from.now (root_at c.loop-number.roots) (root_at c.put_roots.new.roots) c.loop-number.number _
    c.loop-number.invariant (get_there c.args.from.now c.loop-number.number _ c.loop-number-test.true)
    c.put_roots.ensures.own c.put_roots.ensures.others

pub returns : goal.returns
returns c = roots_all c.args.from.now (root_at c.loop-number.roots) c.loop-number.number c.loop-number.invariant c.loop-number-test.false
