use Rattle.std.proofs.Common.{refl, ◌∙◌, sym, inl, inr, []}
use Rattle.io_traits.proofs.ToldFacts.{Grows-none}
use Rattle.run_command.proofs.OutletFacts.{gave_all}
use Rattle.command_parts.proofs.FaultFacts.{succeeded, failed, counted, risen}
use Rattle.run_command.proofs.AnswerFacts.{recorded_front, recorded_all}
use Rattle.run_command.proofs.command.record_run.Goals as goal

pub returns-then-is_err : goal.returns-then-is_err
returns-then-is_err g c = λ b from o opens same stands.
    let ill = sym c.is_err.ensures.value ∙ c.if-is_err.true in
    record {
      reading = c.begin.ensures.reading;
      others = c.begin.ensures.others;
      grows = ([], Grows-none _);
      outcome = inr (inl (record {
        answer = refl;
        file = failed c.begin.result _ ill c.begin.ensures.err;
        writing = risen _ _ c.begin.result ill c.begin.ensures.writing;
        untouched = refl;
      }));
    }

pub invariant_of-outlet : goal.invariant_of-outlet
invariant_of-outlet g c =
    let well = sym c.is_err.ensures.value ∙ c.if-is_err.false in
    record { last = ∣ (λ fresh. succeeded c.begin.result _ well c.begin.ensures.last) ∣₁ }

pub returns-then-outlet : goal.returns-then-outlet
returns-then-outlet g c = λ b from o opens same stands.
    let well = sym c.is_err.ensures.value ∙ c.if-is_err.false in
    let due = c.write_run-status.ensures.runs b from o opens same stands in
    recorded_front _ _ _ _ (gave_all c.write_run-status.ensures.emits_some.1)
    (λ none. gave_all (due none).emits) refl c.if-outlet.true
    (c.shelf-1.given.1 (sym c.write_run-status.ensures.same_shelf))
    (c.out-1.given.1 (sym c.write_run-status.ensures.same_out))
    (succeeded c.begin.result _ well c.begin.ensures.emptied) c.begin.ensures.others c.begin.ensures.reading
    (counted _ _ c.begin.result well c.begin.ensures.writing)

pub returns : goal.returns
returns g c = λ b from o opens same stands.
    let well = sym c.is_err.ensures.value ∙ c.if-is_err.false in
    let due = c.write_run-status.ensures.runs b from o opens same stands in
    recorded_all _ _ _ _ _ (gave_all c.write_run-status.ensures.emits_some.1)
    (λ none. gave_all (due none).emits) refl c.if-outlet.false
    (c.shelf-1.given.1 (sym c.write_run-status.ensures.same_shelf))
    (c.out-1.given.1 (sym c.write_run-status.ensures.same_out))
    (c.write_run-status.ensures.some_stop c.if-outlet.false)
    (λ none. (due none).status c.if-outlet.false)
    (succeeded c.begin.result _ well c.begin.ensures.emptied) c.begin.ensures.others c.begin.ensures.reading
    (counted _ _ c.begin.result well c.begin.ensures.writing)
