use Rattle.std.proofs.Common.{refl, arith}
use Rattle.joint_machine.proofs.Drawn.{draws_none, draws_more, draws_missed}
use Rattle.joint_machine.proofs.drawing.draw_keys.Goals as goal

pub loop-number-init : goal.loop-number-init
loop-number-init c = draws_none c.args.stream.now _ refl

pub returns-in_err-keys : goal.returns-in_err-keys
returns-in_err-keys c =
    rw c.from_residual.ensures
    (draws_missed c.args.stream.now c.loop-number.stream c.loop-number.number c.args.count c.loop-number.keys
    c.loop-number.invariant c.loop-number-test.true c.in_err-keys.ensures.0)

pub loop-number-preserved : goal.loop-number-preserved
loop-number-preserved c =
    draws_more c.args.stream.now c.loop-number.stream c.draw.new.self c.loop-number.number c.loop-number.keys _ _
    c.loop-number.invariant (omega (arith, c.loop-number-test.true, c.requires)) c.in_ok-keys.ensures refl
