use Rattle.std.proofs.Common.{◌++◌}
use Rattle.cloak_machine.specs.Ending.{end_short_report}
use Rattle.guest_kernel.specs.Summary.{summary_line}
use Rattle.io_traits.proofs.ToldFacts.{puts-failed, puts-first, puts-then}
use Rattle.image_commands.proofs.demonstrating.show_demo.Goals as goal

pub returns-in_err-put_summary : goal.returns-in_err-put_summary
returns-in_err-put_summary g c =
    let taken = g.O.Sink.taken in
    let faults = g.O.Sink.faults in
    let before = c.args.out.now in
    let after = c.put_summary.new.out in
    let line = summary_line c.args.number in
    let rest = end_short_report c.args.end.now in
    let fault = c.in_err-put_summary.field-0.0 in
    puts-failed (taken before) (taken after) (faults before) (faults after) (line ++ rest) fault
    c.from_residual.result _ c.from_residual.ensures.1
    (puts-first (taken before) (taken after) (faults before) (faults after) line rest fault
    c.in_err-put_summary.ensures)

pub returns : goal.returns
returns g c =
    let taken = g.O.Sink.taken in
    let faults = g.O.Sink.faults in
    let before = c.args.out.now in
    let mid = c.put_summary.new.out in
    let after = c.short_report.new.out in
    puts-then (taken before) (taken mid) (taken after) (faults before) (faults mid) (faults after)
    (summary_line c.args.number) (end_short_report c.args.end.now) c.in_ok-put_summary.field-0 c.short_report.result
    c.in_ok-put_summary.ensures c.short_report.ensures
