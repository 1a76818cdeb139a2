use Rattle.std.proofs.Common.{◌∙◌, ap, take, ◌++◌}
use Rattle.cloak_model.specs.Report.{harts_lines, hart_lines}
use Rattle.cloak_model.specs.Hart.{Hart}
use Rattle.kernel_report.proofs.PutFacts.{then, text_is, harts_lines-take_more}
use Rattle.kernel_report.proofs.kernel.put_harts.Goals as goal

pub loop-number-preserved : goal.loop-number-preserved
loop-number-preserved g c = text_is (then c.loop-number.invariant c.put_hart-so_far.ensures)
    (ap (λ (h : Hart). harts_lines 0 (take c.loop-number.number c.args.harts.now) ++ hart_lines c.loop-number.number
    h) c.index-harts-number.is
    ∙ harts_lines-take_more _ _ _ c.loop-number-test.true)
