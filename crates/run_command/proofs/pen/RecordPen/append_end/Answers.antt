use Rattle.std.proofs.Common.{sym, ◌∙◌}
use Rattle.std.proofs.Math.Logic.{∥∥₁_map}
use Rattle.run_command.proofs.OutletFacts.{adds_flushed}
use Rattle.run_command.proofs.pen.RecordPen.append_end.Goals as goal

pub invariant_of-self-else-is_err : goal.invariant_of-self-else-is_err
invariant_of-self-else-is_err g c = record {
  last = ∥∥₁_map c.append.new.self.last (λ last well. c.flush.ensures.last _ (last c.if-self.false));
}

pub returns-then-is_err-clause-adds : goal.returns-then-is_err-clause-adds
returns-then-is_err-clause-adds g c =
    adds_flushed _ _ _ _ _ _ _ c.flush.result c.append.ensures.adds c.if-self.false
    (sym c.if-is_err.true ∙ c.is_err.ensures.value) c.flush.ensures.files c.flush.ensures.writing
    c.flush.ensures.reading

pub returns-else-is_err-clause-adds : goal.returns-else-is_err-clause-adds
returns-else-is_err-clause-adds g c =
    adds_flushed _ _ _ _ _ _ _ c.flush.result c.append.ensures.adds c.if-self.false
    (c.if-self.false ∙ sym c.if-is_err.false ∙ c.is_err.ensures.value) c.flush.ensures.files
    c.flush.ensures.writing c.flush.ensures.reading
