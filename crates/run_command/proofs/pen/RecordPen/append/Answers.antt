use Rattle.std.proofs.Common.{sym, ◌∙◌}
use Rattle.run_command.proofs.OutletFacts.{adds_piece}
use Rattle.run_command.proofs.pen.RecordPen.append.Goals as goal

pub returns-then-is_err-clause-adds : goal.returns-then-is_err-clause-adds
returns-then-is_err-clause-adds g c =
    adds_piece _ _ _ _ _ c.append_last.result (sym c.if-is_err.true ∙ c.is_err.ensures.value)
    c.append_last.ensures.ok c.append_last.ensures.err c.append_last.ensures.others c.append_last.ensures.writing
    c.append_last.ensures.reading

pub returns-else-is_err-clause-adds : goal.returns-else-is_err-clause-adds
returns-else-is_err-clause-adds g c =
    adds_piece _ _ _ _ _ c.append_last.result
    (c.requires.going ∙ sym c.if-is_err.false ∙ c.is_err.ensures.value) c.append_last.ensures.ok
    c.append_last.ensures.err c.append_last.ensures.others c.append_last.ensures.writing
    c.append_last.ensures.reading
