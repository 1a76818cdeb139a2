use Rattle.std.proofs.Common.{refl, arith}
use Rattle.std.proofs.lemmas.Option.{slice_get_read}
use Rattle.joint_machine.specs.Thawing.{IsSteadyHart}
use Rattle.joint_machine.proofs.ThawedParts.{harts_all, harts_next, harts_none}
use Rattle.joint_machine.proofs.thawing.thaw_harts.Goals as goal
use Rattle.resource_map.proofs.Lists.{All-slice_get}

pub loop-number-init : goal.loop-number-init
loop-number-init c = harts_none c.args.from.now c.new-harts.result.items c.new-harts.ensures.items

pub thaw_hart-requires-clause-aligned : goal.thaw_hart-requires-clause-aligned
thaw_hart-requires-clause-aligned c =
    (All-slice_get IsSteadyHart c.args.from.now c.loop-number.number c.index-from-number.result c.requires.harts
    (slice_get_read c.args.from.now _ c.loop-number.number c.index-from-number.result refl c.loop-number-test.true
    c.index-from-number.is)).aligned

pub thaw_hart-requires-clause-csrs : goal.thaw_hart-requires-clause-csrs
thaw_hart-requires-clause-csrs c =
    (All-slice_get IsSteadyHart c.args.from.now c.loop-number.number c.index-from-number.result c.requires.harts
    (slice_get_read c.args.from.now _ c.loop-number.number c.index-from-number.result refl c.loop-number-test.true
    c.index-from-number.is)).csrs

pub loop-number-preserved : goal.loop-number-preserved
loop-number-preserved c =
    harts_next c.args.from.now c.loop-number.harts.items c.push.new.self.items c.loop-number.number _ c.thaw_hart.result
    c.loop-number.invariant
    (slice_get_read c.args.from.now _ c.loop-number.number c.index-from-number.result refl c.loop-number-test.true
    c.index-from-number.is) c.in_ok-push.ensures.items c.thaw_hart.ensures

pub returns-clause-count : goal.returns-clause-count
returns-clause-count c = omega (arith, c.loop-number.invariant.filled, c.loop-number-test.false, c.loop-number.auto.number-end)

pub returns-clause-thaws : goal.returns-clause-thaws
returns-clause-thaws c =
    harts_all c.args.from.now c.loop-number.harts.items c.loop-number.number c.loop-number.invariant
    (omega (arith, c.loop-number-test.false, c.loop-number.auto.number-end))
