use Rattle.std.proofs.Common.{◌∙◌, ap}
use Rattle.kernel_report.proofs.PutFacts.{then, text_is}
use Rattle.cloak_machine.specs.Lines.{line_text}
use Rattle.cloak_machine.proofs.DomainOrder.{lines-take_more}
use Rattle.cloak_machine.proofs.end.put_lines.Goals as goal

pub loop-line-preserved : goal.loop-line-preserved
loop-line-preserved g c =
    let item = c.line-item in
    text_is (then c.loop-line.invariant c.text-so_far.ensures)
    (lines-take_more _ _ item.result (c.text.ensures ∙ ap line_text item.is) c.loop-line-test.true)
