use Rattle.std.proofs.Common.{codes, Ok, Err}
use Rattle.cloak_model.specs.Report.{kernel_lines}
use Rattle.io_traits.proofs.ToldFacts.{puts, puts-first, puts-then, puts-failed}
use Rattle.read_back.specs.Text.{lines_or_fault}
use Rattle.read_back.proofs.Lines.{fault_lines}
use Rattle.read_back.proofs.view.show_end.Goals as goal

pub returns-in_err-put_all : goal.returns-in_err-put_all
returns-in_err-put_all g c = λ turns s stands few.
    puts-failed _ _ _ _ _ c.in_err-put_all.field-0.0 c.from_residual.result _ c.from_residual.ensures.1
    (puts-first _ _ _ _ (codes "\n") (lines_or_fault (kernel_lines s.kernel) c.args.ending.now)
    c.in_err-put_all.field-0.0
    (puts _ _ _ _ (codes "\n") (Err c.in_err-put_all.field-0.0) c.in_err-put_all.ensures.ok c.in_err-put_all.ensures.err
    c.in_err-put_all.ensures.faults))

pub returns-in-Whole : goal.returns-in-Whole
returns-in-Whole g c = λ turns s stands few.
    rw c.in-Whole.is (puts-then _ _ _ _ _ _ (codes "\n") (kernel_lines s.kernel) c.in_ok-put_all.field-0 c.report.result
    (puts _ _ _ _ (codes "\n") (Ok c.in_ok-put_all.field-0) c.in_ok-put_all.ensures.ok c.in_ok-put_all.ensures.err
    c.in_ok-put_all.ensures.faults) (c.report.ensures.puts turns s stands few))

pub returns-in_default : goal.returns-in_default
returns-in_default g c = λ turns s stands few.
    puts-then _ _ _ _ _ _ (codes "\n") (lines_or_fault (kernel_lines s.kernel) c.args.ending.now)
    c.in_ok-put_all.field-0 c.show_fault.result
    (puts _ _ _ _ (codes "\n") (Ok c.in_ok-put_all.field-0) c.in_ok-put_all.ensures.ok c.in_ok-put_all.ensures.err
    c.in_ok-put_all.ensures.faults)
    (fault_lines _ _ _ _ (kernel_lines s.kernel) c.args.ending.now c.show_fault.result c.in_default.not-Whole
    c.show_fault.ensures)
