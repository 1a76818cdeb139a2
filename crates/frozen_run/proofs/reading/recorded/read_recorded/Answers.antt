use Rattle.std.proofs.Common.{◌≡◌, ◌∙◌, ℕ, ◌+◌, ◌-◌, None, Some, Option, length, refl, sym, ap, arith}
use Rattle.std.proofs.lemmas.List.{length_push}
use Rattle.std.proofs.lemmas.Result.{err_from_is_err_and}
use Rattle.cloak_base.specs.declared.names.PageId.{PageId}
use Rattle.cloak_model.specs.Fields.{first_in}
use Rattle.frozen_state.specs.declared.fault.FrozenFault.{FrozenFault}
use Rattle.frozen_state.specs.declared.frozen.FrozenPage.{FrozenPage}
use Rattle.frozen_state.specs.FrozenFault.{page_at, page_fields, rises, recorded_fields}
use Rattle.field_facts.proofs.Firsts.{fault_found, no_fault}
use Rattle.frozen_run.specs.Reading.{values, recorded_in, after_recorded}
use Rattle.frozen_run.proofs.Rows.{push_value, over_pushed}
use Rattle.frozen_run.proofs.Recorded.{next_recorded, no_recorded}
use Rattle.frozen_run.proofs.reading.recorded.read_recorded.Goals as goal

pub returns-in_err-page-clause-fault : goal.returns-in_err-page-clause-fault
returns-in_err-page-clause-fault c =
    let p = err_from_is_err_and c.from_residual-in_err-page.result c.from_residual-in_err-page.ensures.1 in
    let body = c.args.body.now in
    let programs = c.args.programs in
    let n = c.args.n in
    let i = c.loop.counter in
    let at = c.loop.at in
    rw (p.1, p.2) (λ other. sym (fault_found
    (first_in body (page_fields body programs (rises c.loop.last (page_at body at)) at))
    (first_in body (recorded_fields body programs (n - (i + 1)) (Some (page_at body at)) (at + 60)))
    (first_in body (recorded_fields body programs n None c.args.from)) c.in_err-page.field-0.0 c.in_err-page.ensures.fault
    (sym (next_recorded body programs n i c.loop.last at c.loop-test.true) ∙ c.loop.invariant.fields)))

pub loop-preserved : goal.loop-preserved
loop-preserved c =
    let body = c.args.body.now in
    let from = c.args.from in
    let programs = c.args.programs in
    let n = c.args.n in
    let i = c.loop.counter in
    let at = c.loop.at in
    let page = c.in_ok-page.page in
    let kept = c.loop.invariant in
    let read = c.in_ok-page.ensures in
    let push = c.push_reserved.ensures in
    let rest : Option PageId → Option FrozenFault = λ (o : Option PageId). first_in body (recorded_fields body programs (n - (i + 1)) o (at + 60)) in
    let same : page.page ≡ page_at body at = ap (λ (x : FrozenPage). x.page) read.value in
    record {
      count = ap length push.items ∙ length_push c.loop.pages.items page ∙ ap (λ (k : ℕ). k + 1) kept.count;
      room = push.capacity ∙ kept.room;
      value = push_value (recorded_in body) after_recorded n i at (at + 60) c.loop.pages.items
          c.push_reserved.new.self.items page (values (recorded_in body) after_recorded n from) c.loop-test.true
          push.items read.value refl kept.value;
      fields = ap (λ (q : PageId). rest (Some q)) same
          ∙ no_fault (first_in body (page_fields body programs (rises c.loop.last (page_at body at)) at))
          (rest (Some (page_at body at))) (first_in body (recorded_fields body programs n None from)) read.fault
          (sym (next_recorded body programs n i c.loop.last at c.loop-test.true) ∙ kept.fields);
      at = omega (arith, kept.at);
      within = read.inside;
    }

pub returns-clause-fault : goal.returns-clause-fault
returns-clause-fault c =
    let body = c.args.body.now in
    let n = c.args.n in
    sym (sym (no_recorded body c.args.programs n c.loop.counter c.loop.last c.loop.at (omega (arith, c.loop-test.false)))
    ∙ c.loop.invariant.fields)

pub returns-clause-value : goal.returns-clause-value
returns-clause-value c =
    let body = c.args.body.now in
    let n = c.args.n in
    over_pushed (recorded_in body) after_recorded n c.loop.counter c.loop.at c.loop.pages.items
    (values (recorded_in body) after_recorded n c.args.from) c.loop-test.false c.loop.invariant.value
