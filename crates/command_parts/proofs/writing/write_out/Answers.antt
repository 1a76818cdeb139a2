use Rattle.std.proofs.Common.{refl, sym, inl, inr, ◌∙◌}
use Rattle.command_parts.proofs.FaultFacts.{counted, risen}
use Rattle.command_parts.proofs.writing.write_out.Goals as goal

pub returns-clause-written : goal.returns-clause-written
returns-clause-written g c = record {
  held = c.flush.ensures.files;
  taken = c.flush-2.ensures.same;
  reading = c.flush.ensures.reading;
  outcome = inl (
    refl,
    record {
      reading = c.flush.ensures.reading;
      writing = counted _ _ c.flush.result (sym c.is_err-are_unwritten.ensures.value ∙ c.if-are_unwritten.false)
          c.flush.ensures.writing;
      faults = counted _ _ c.flush-2.result (sym c.is_err-is_unshown.ensures.value ∙ c.if-is_unshown.false)
          c.flush-2.ensures.faults;
    },
  );
}

pub returns-then-are_unwritten-clause-written : goal.returns-then-are_unwritten-clause-written
returns-then-are_unwritten-clause-written g c = record {
  held = c.flush.ensures.files;
  taken = c.flush-2.ensures.same;
  reading = c.flush.ensures.reading;
  outcome = inr (
    refl,
    elim c.then-are_unwritten.either [
      | inl failed ↦ inl (risen _ _ c.flush.result (sym c.is_err-are_unwritten.ensures.value ∙ failed)
          c.flush.ensures.writing)
      | inr failed ↦ inr (risen _ _ c.flush-2.result (sym c.is_err-is_unshown.ensures.value ∙ failed.1)
          c.flush-2.ensures.faults)
    ],
  );
}
