use Rattle.std.proofs.Common.{refl, arith}
use Rattle.thread_context.specs.Recorded.{root_at}
use Rattle.joint_machine.proofs.ThawedParts.{puts_all, puts_next, puts_none}
use Rattle.joint_machine.proofs.thawing.put_roots.Goals as goal

pub loop-number-init : goal.loop-number-init
loop-number-init c = puts_none c.args.from.now c.args.domain (root_at c.args.roots.now) c.requires.empty

pub loop-number-preserved : goal.loop-number-preserved
loop-number-preserved c =
    puts_next c.args.from.now c.args.domain (root_at c.args.roots.now) (root_at c.loop-number.roots) (root_at c.set.new.self)
    c.loop-number.number _ c.loop-number.invariant refl c.set.ensures.each

pub returns-clause-own : goal.returns-clause-own
returns-clause-own c =
    puts_all c.args.from.now c.args.domain (root_at c.args.roots.now) (root_at c.loop-number.roots) c.loop-number.number
    c.loop-number.invariant (omega (arith, c.loop-number-test.false))

pub returns-clause-others : goal.returns-clause-others
returns-clause-others c = c.loop-number.invariant.others
