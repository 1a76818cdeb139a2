use Rattle.std.proofs.Common.{◌∙◌, ℕ, ◌+◌, length, sym, ap}
use Rattle.std.proofs.lemmas.List.{length_push}
use Rattle.std.proofs.lemmas.Result.{err_from_is_err_and}
use Rattle.cloak_model.specs.Fields.{first_in, parts, after_parts}
use Rattle.frozen_state.specs.FrozenFault.{hart_fields, after_hart}
use Rattle.field_facts.proofs.Firsts.{row_wrong, row_on, row_over, end_on, end_over}
use Rattle.frozen_run.specs.Reading.{values, hart_in}
use Rattle.frozen_run.proofs.Rows.{push_value, over_pushed}
use Rattle.frozen_run.proofs.reading.harts.read_harts.Goals as goal

pub returns-in_err-hart-clause-fault : goal.returns-in_err-hart-clause-fault
returns-in_err-hart-clause-fault c =
    let p = err_from_is_err_and c.from_residual-in_err-hart.result c.from_residual-in_err-hart.ensures.1 in
    let body = c.args.body.now in
    let n = c.args.n in
    rw (p.1, p.2) (λ other. sym (row_wrong (hart_fields body c.args.frames) (after_hart body) body n c.loop.counter
    c.loop.at (first_in body (parts (hart_fields body c.args.frames) (after_hart body) n c.args.from))
    c.in_err-hart.field-0.0 c.loop-test.true c.in_err-hart.ensures.fault c.loop.invariant.fields))

pub loop-preserved : goal.loop-preserved
loop-preserved c =
    let body = c.args.body.now in
    let from = c.args.from in
    let frames = c.args.frames in
    let n = c.args.n in
    let i = c.loop.counter in
    let at = c.loop.at in
    let next = c.in_ok-hart.next in
    let kept = c.loop.invariant in
    let read = c.in_ok-hart.ensures in
    let push = c.push_reserved.ensures in
    record {
      count = ap length push.items ∙ length_push c.loop.harts.items c.in_ok-hart.hart ∙ ap (λ (k : ℕ). k + 1) kept.count;
      room = push.capacity ∙ kept.room;
      value = push_value (hart_in body) (after_hart body) n i at next c.loop.harts.items c.push_reserved.new.self.items
          c.in_ok-hart.hart (values (hart_in body) (after_hart body) n from) c.loop-test.true push.items read.value
          read.next kept.value;
      fields = row_on (hart_fields body frames) (after_hart body) body n i at next
          (first_in body (parts (hart_fields body frames) (after_hart body) n from)) c.loop-test.true read.fault
          read.next kept.fields;
      end = end_on (after_hart body) n i at next (after_parts (after_hart body) n from) c.loop-test.true read.next kept.end;
      within = read.inside;
    }

pub returns-clause-fault : goal.returns-clause-fault
returns-clause-fault c =
    let body = c.args.body.now in
    let n = c.args.n in
    sym (row_over (hart_fields body c.args.frames) (after_hart body) body n c.loop.counter c.loop.at
    (first_in body (parts (hart_fields body c.args.frames) (after_hart body) n c.args.from)) c.loop-test.false
    c.loop.invariant.fields)

pub returns-clause-value : goal.returns-clause-value
returns-clause-value c =
    let body = c.args.body.now in
    let n = c.args.n in
    over_pushed (hart_in body) (after_hart body) n c.loop.counter c.loop.at c.loop.harts.items
    (values (hart_in body) (after_hart body) n c.args.from) c.loop-test.false c.loop.invariant.value

pub returns-clause-next : goal.returns-clause-next
returns-clause-next c =
    let body = c.args.body.now in
    let n = c.args.n in
    end_over (after_hart body) n c.loop.counter c.loop.at (after_parts (after_hart body) n c.args.from)
    c.loop-test.false c.loop.invariant.end
