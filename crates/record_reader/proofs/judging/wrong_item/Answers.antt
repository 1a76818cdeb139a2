use Rattle.std.proofs.Common.{true, false, sym, arith}
use Rattle.record_reader.proofs.Windows.{no_tag, no_place, no_width, too_short, numbered_by}
use Rattle.record_reader.proofs.judging.wrong_item.Goals.{then-not-may_stand-via-then-not-may_stand, then-not-may_stand-via-else-not-may_stand+then-has_bad_width}
use Rattle.record_reader.proofs.judging.wrong_item.Goals as goal

pub returns-in_default : goal.returns-in_default
returns-in_default c = no_tag c.args.stage c.args.tag _ c.in_default.is

pub returns-then-not-may_stand : goal.returns-then-not-may_stand
returns-then-not-may_stand c =
    elim c.then-not-may_stand.branch [
      | then-not-may_stand-via-then-not-may_stand w ↦ no_place c.args.stage c.args.tag c.in-Some.tag _ c.in-Some.is (sym w.if-not-may_stand.ensures)
      | then-not-may_stand-via-else-not-may_stand+then-has_bad_width w ↦ no_width c.args.stage c.args.tag c.in-Some.tag _ c.in-Some.is (sym w.if-not-may_stand.ensures) (sym w.if-has_bad_width.ensures)
    ]

pub returns-then-fields-size_of : goal.returns-then-fields-size_of
returns-then-fields-size_of c =
    too_short c.args.stage c.args.tag c.in-Some.tag _ c.in-Some.is (sym c.if-not-may_stand.ensures) (sym c.if-has_bad_width.ensures)
    (omega (arith, c.if-fields-size_of.true, c.size_of.ensures))

pub returns-then-not-is_numbered : goal.returns-then-not-is_numbered
returns-then-not-is_numbered c =
    numbered_by c.args.stage c.args.tag c.in-Some.tag _ false c.in-Some.is (sym c.if-not-may_stand.ensures) (sym c.if-has_bad_width.ensures)
    (omega (arith, c.if-fields-size_of.false, c.size_of.ensures)) (sym c.if-not-is_numbered.ensures)

pub returns : goal.returns
returns c =
    numbered_by c.args.stage c.args.tag c.in-Some.tag _ true c.in-Some.is (sym c.if-not-may_stand.ensures) (sym c.if-has_bad_width.ensures)
    (omega (arith, c.if-fields-size_of.false, c.size_of.ensures)) (sym c.if-not-is_numbered.ensures)
