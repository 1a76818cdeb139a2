use Rattle.std.proofs.Common.{◌∙◌, ℕ, ◌+◌, ◌-◌, [], length, sym, ap, arith, length-set}
use Rattle.std.proofs.lemmas.Result.{err_from_is_err_and}
use Rattle.cloak_model.specs.Fields.{first_in, after_parts}
use Rattle.frozen_state.specs.FrozenFault.{frames_fields, after_frame}
use Rattle.field_facts.proofs.Firsts.{fault_found, no_fault, end_on, end_over}
use Rattle.frozen_run.specs.Reading.{values, frame_in, frame_fields, seen_after}
use Rattle.frozen_run.proofs.Frames.{next_frame, no_frames}
use Rattle.frozen_run.proofs.Rows.{put_value, over_put}
use Rattle.frozen_run.proofs.reading.frames.fill.Goals as goal

pub returns-in_err-at-clause-fault : goal.returns-in_err-at-clause-fault
returns-in_err-at-clause-fault c =
    let p = err_from_is_err_and c.from_residual.result c.from_residual.ensures.1 in
    let body = c.args.body.now in
    let programs = c.args.programs in
    let n = length c.args.into.now in
    let f = c.loop-f.f in
    let at = c.loop-f.at in
    let kept = c.loop-f.invariant in
    rw (p.1, p.2) (fault_found (first_in body (frame_fields body programs kept.seen at))
    (first_in body (frames_fields body programs (n - (f + 1)) (seen_after body kept.seen at) (after_frame body at)))
    (first_in body (frames_fields body programs n [] c.args.from)) c.in_err-at.field-0.0
    (c.in_err-at.ensures.fault kept.seen kept.row)
    (sym (next_frame body programs n f kept.seen at c.loop-f-test.true) ∙ kept.fields))

pub loop-f-preserved : goal.loop-f-preserved
loop-f-preserved c =
    let body = c.args.body.now in
    let from = c.args.from in
    let programs = c.args.programs in
    let n = length c.args.into.now in
    let f = c.loop-f.f in
    let at = c.loop-f.at in
    let next = c.in_ok-at.at in
    let into = c.loop-f.into in
    let x = c.read_frame.new.into in
    let kept = c.loop-f.invariant in
    let read = c.in_ok-at.ensures in
    let seen = seen_after body kept.seen at in
    record {
      long = length-set into f x ∙ kept.long;
      value = put_value (frame_in body) (after_frame body) n f at next into x
          (values (frame_in body) (after_frame body) n from) c.loop-f-test.true
          (omega (arith, kept.long, c.loop-f-test.true)) read.value read.next kept.value;
      seen = seen;
      row = read.row kept.seen kept.row;
      fields = ap (λ (k : ℕ). first_in body (frames_fields body programs (n - (f + 1)) seen k)) read.next
          ∙ no_fault (first_in body (frame_fields body programs kept.seen at))
          (first_in body (frames_fields body programs (n - (f + 1)) seen (after_frame body at)))
          (first_in body (frames_fields body programs n [] from)) (read.fault kept.seen kept.row)
          (sym (next_frame body programs n f kept.seen at c.loop-f-test.true) ∙ kept.fields);
      end = end_on (after_frame body) n f at next (after_parts (after_frame body) n from) c.loop-f-test.true read.next
          kept.end;
      within = read.inside;
    }

pub returns-clause-fault : goal.returns-clause-fault
returns-clause-fault c =
    let body = c.args.body.now in
    let n = length c.args.into.now in
    sym (no_frames body c.args.programs n c.loop-f.f c.loop-f.invariant.seen c.loop-f.at
    (omega (arith, c.loop-f-test.false))) ∙ c.loop-f.invariant.fields

pub returns-clause-value : goal.returns-clause-value
returns-clause-value c =
    let body = c.args.body.now in
    let n = length c.args.into.now in
    over_put (frame_in body) (after_frame body) n c.loop-f.f c.loop-f.at c.loop-f.into
    (values (frame_in body) (after_frame body) n c.args.from) c.loop-f-test.false
    (omega (arith, c.loop-f.invariant.long, c.loop-f-test.false)) c.loop-f.invariant.value

pub returns-clause-next : goal.returns-clause-next
returns-clause-next c =
    let body = c.args.body.now in
    let n = length c.args.into.now in
    end_over (after_frame body) n c.loop-f.f c.loop-f.at (after_parts (after_frame body) n c.args.from)
    c.loop-f-test.false c.loop-f.invariant.end
