use Rattle.std.proofs.Common.{◌∙◌, arith, length-set}
use Rattle.std.proofs.lemmas.Result.{err_from_is_err_and}
use Rattle.cloak_model.specs.Fields.{first_in, parts, after_parts}
use Rattle.frozen_state.specs.FrozenFault.{maybe_fields, after_maybe}
use Rattle.field_facts.proofs.Firsts.{row_wrong, row_on, row_over, end_on, end_over}
use Rattle.frozen_run.specs.Reading.{values, maybe_in}
use Rattle.frozen_run.proofs.Rows.{put_value, over_put}
use Rattle.frozen_run.proofs.reading.domains.roots.Goals as goal

pub returns-in_err-root-clause-fault : goal.returns-in_err-root-clause-fault
returns-in_err-root-clause-fault c =
    let p = err_from_is_err_and c.from_residual.result c.from_residual.ensures.1 in
    let body = c.args.body.now in
    rw (p.1, p.2) (row_wrong (maybe_fields body) (after_maybe body) body 8 c.loop-i.i c.loop-i.at
    (first_in body (parts (maybe_fields body) (after_maybe body) 8 c.args.from)) c.in_err-root.field-0.0
    c.loop-i-test.true c.in_err-root.ensures.fault c.loop-i.invariant.fields)

pub loop-i-preserved : goal.loop-i-preserved
loop-i-preserved c =
    let body = c.args.body.now in
    let from = c.args.from in
    let i = c.loop-i.i in
    let at = c.loop-i.at in
    let next = c.in_ok-root.next in
    let kept = c.loop-i.invariant in
    let read = c.in_ok-root.ensures in
    record {
      long = length-set c.loop-i.roots i c.in_ok-root.root ∙ kept.long;
      value = put_value (maybe_in body) (after_maybe body) 8 i at next c.loop-i.roots c.in_ok-root.root
          (values (maybe_in body) (after_maybe body) 8 from) c.loop-i-test.true
          (omega (arith, kept.long, c.loop-i-test.true)) read.value read.next kept.value;
      fields = row_on (maybe_fields body) (after_maybe body) body 8 i at next
          (first_in body (parts (maybe_fields body) (after_maybe body) 8 from)) c.loop-i-test.true read.fault read.next
          kept.fields;
      end = end_on (after_maybe body) 8 i at next (after_parts (after_maybe body) 8 from) c.loop-i-test.true read.next
          kept.end;
      within = read.inside;
    }

pub returns-clause-fault : goal.returns-clause-fault
returns-clause-fault c =
    let body = c.args.body.now in
    row_over (maybe_fields body) (after_maybe body) body 8 c.loop-i.i c.loop-i.at
    (first_in body (parts (maybe_fields body) (after_maybe body) 8 c.args.from)) c.loop-i-test.false
    c.loop-i.invariant.fields

pub returns-clause-value : goal.returns-clause-value
returns-clause-value c =
    let body = c.args.body.now in
    over_put (maybe_in body) (after_maybe body) 8 c.loop-i.i c.loop-i.at c.loop-i.roots
    (values (maybe_in body) (after_maybe body) 8 c.args.from) c.loop-i-test.false
    (omega (arith, c.loop-i.invariant.long, c.loop-i-test.false)) c.loop-i.invariant.value

pub returns-clause-next : goal.returns-clause-next
returns-clause-next c =
    let body = c.args.body.now in
    end_over (after_maybe body) 8 c.loop-i.i c.loop-i.at (after_parts (after_maybe body) 8 c.args.from)
    c.loop-i-test.false c.loop-i.invariant.end
