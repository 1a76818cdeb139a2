use Rattle.std.proofs.Common.{refl}
use Rattle.frozen_run.proofs.WritingFacts.{adds_by_answer, gives_piece}
use Rattle.frozen_run.proofs.pen.Pen.put.Goals as goal

pub returns-clause-gives : goal.returns-clause-gives
returns-clause-gives g c =
    gives_piece _ _ _ _ c.if-self.false refl
    (adds_by_answer _ _ _ _ _ _ c.append.result c.is_err-self.ensures.value c.append.ensures.ok c.append.ensures.err
    c.append.ensures.others c.append.ensures.writing c.append.ensures.reading) c.update.ensures
