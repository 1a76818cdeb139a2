use Rattle.std.proofs.Common.{◌++◌, codes, Ok, Err}
use Rattle.cloak_machine.specs.Ending.{end_report}
use Rattle.io_traits.proofs.ToldFacts.{puts, puts-first, puts-then, puts-failed}
use Rattle.store_command.proofs.command.show_end.Goals as goal

pub returns-in_err-put_all : goal.returns-in_err-put_all
returns-in_err-put_all g c =
    let taken = g.O.Sink.taken in
    let faults = g.O.Sink.faults in
    let before = c.args.out.now in
    let after = c.put_all.new.out in
    let lines = end_report c.args.end.now in
    puts-failed (taken before) (taken after) (faults before) (faults after) (codes "\n" ++ lines)
    c.in_err-put_all.field-0.0 c.from_residual.result _ c.from_residual.ensures.1
    (puts-first (taken before) (taken after) (faults before) (faults after) (codes "\n") lines c.in_err-put_all.field-0.0
    (puts (taken before) (taken after) (faults before) (faults after) (codes "\n") (Err c.in_err-put_all.field-0.0)
    c.in_err-put_all.ensures.ok c.in_err-put_all.ensures.err c.in_err-put_all.ensures.faults))

pub returns : goal.returns
returns g c =
    let taken = g.O.Sink.taken in
    let faults = g.O.Sink.faults in
    let before = c.args.out.now in
    let mid = c.put_all.new.out in
    let after = c.report.new.out in
    let lines = end_report c.args.end.now in
    puts-then (taken before) (taken mid) (taken after) (faults before) (faults mid) (faults after) (codes "\n") lines
    c.in_ok-put_all.field-0 c.report.result
    (puts (taken before) (taken mid) (faults before) (faults mid) (codes "\n") (Ok c.in_ok-put_all.field-0)
    c.in_ok-put_all.ensures.ok c.in_ok-put_all.ensures.err c.in_ok-put_all.ensures.faults) c.report.ensures
