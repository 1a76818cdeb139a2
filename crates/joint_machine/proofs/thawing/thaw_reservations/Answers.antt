use Rattle.std.proofs.Common.{refl}
use Rattle.std.proofs.lemmas.Option.{slice_get_read}
use Rattle.joint_machine.proofs.ThawedParts.{marks_all, marks_next, marks_none}
use Rattle.joint_machine.proofs.thawing.thaw_reservations.Goals as goal

pub loop-number-init : goal.loop-number-init
loop-number-init c = marks_none c.args.from.now c.none-reservations.result c.none-reservations.ensures

pub loop-number-preserved : goal.loop-number-preserved
loop-number-preserved c =
    marks_next c.args.from.now c.loop-number.reservations c.put_mark.new.reservations c.loop-number.number _
    c.loop-number.invariant (slice_get_read c.args.from.now _ c.loop-number.number c.index-from-number.result refl c.loop-number-test.true
    c.index-from-number.is) c.put_mark.ensures

pub returns : goal.returns
returns c = marks_all c.args.from.now c.loop-number.reservations c.loop-number.number c.loop-number.invariant c.loop-number-test.false
