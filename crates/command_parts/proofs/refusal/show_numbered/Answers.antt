use Rattle.std.proofs.Common.{◌++◌, codes, Ok, Err}
use Rattle.std.specs.Prelude.{decimal}
use Rattle.io_traits.proofs.ToldFacts.{puts-first, puts-then, puts-failed}
use Rattle.command_parts.proofs.refusal.show_numbered.Goals as goal

pub returns-in_err-show_decimal : goal.returns-in_err-show_decimal
returns-in_err-show_decimal g c =
    let taken = g.O.Sink.taken in
    let faults = g.O.Sink.faults in
    let before = c.args.out.now in
    let mid = c.show.new.out in
    let after = c.show_decimal.new.out in
    let number = decimal c.args.number in
    puts-failed (taken before) (taken after) (faults before) (faults after)
    (c.args.text.now ++ number ++ codes "\n") c.in_err-show_decimal.field-0.0
    c.from_residual-in_err-show_decimal.result _ c.from_residual-in_err-show_decimal.ensures.1
    (puts-first (taken before) (taken after) (faults before) (faults after) (c.args.text.now ++ number) (codes "\n")
    c.in_err-show_decimal.field-0.0
    (puts-then (taken before) (taken mid) (taken after) (faults before) (faults mid) (faults after) c.args.text.now
    number c.in_ok-show.field-0 (Err c.in_err-show_decimal.field-0.0) c.in_ok-show.ensures
    c.in_err-show_decimal.ensures))

pub returns : goal.returns
returns g c =
    let taken = g.O.Sink.taken in
    let faults = g.O.Sink.faults in
    let before = c.args.out.now in
    let mid = c.show.new.out in
    let later = c.show_decimal.new.out in
    let after = c.show-2.new.out in
    let number = decimal c.args.number in
    puts-then (taken before) (taken later) (taken after) (faults before) (faults later) (faults after)
    (c.args.text.now ++ number) (codes "\n") c.in_ok-show_decimal.field-0 c.show-2.result
    (puts-then (taken before) (taken mid) (taken later) (faults before) (faults mid) (faults later) c.args.text.now
    number c.in_ok-show.field-0 (Ok c.in_ok-show_decimal.field-0) c.in_ok-show.ensures c.in_ok-show_decimal.ensures)
    c.show-2.ensures
