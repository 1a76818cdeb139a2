use Rattle.std.proofs.Common.{◌∙◌, refl, ap, sym, arith}
use Rattle.cloak_pager.specs.State.{owed_under, page_of}
use Rattle.joint_machine.proofs.Freezes.{freezes_all, freezes_ends, freezes_next, freezes_none}
use Rattle.joint_machine.proofs.freezing.freeze_frames.Goals as goal

pub loop-f-init : goal.loop-f-init
loop-f-init c = record {
  capacity = refl;
  freezes = freezes_none c.args.pager.now c.args.ivs.now c.args.room.items c.requires.empty;
}

pub freeze_frame-requires-clause-inside : goal.freeze_frame-requires-clause-inside
freeze_frame-requires-clause-inside c =
    omega (arith, c.loop-f-test.true, c.count-f-end.ensures.value, c.loop-f.invariant.freezes.count)

pub freeze_frame-requires-clause-settled : goal.freeze_frame-requires-clause-settled
freeze_frame-requires-clause-settled c =
    let right = c.loop-f.invariant.freezes.rights c.loop-f.f (omega arith) in
    ap page_of right ∙ (c.requires.settled c.loop-f.f ∙ ap owed_under (sym right))

pub returns-in_err-freeze_frame-clause-draws : goal.returns-in_err-freeze_frame-clause-draws
returns-in_err-freeze_frame-clause-draws c m tells =
    rw c.from_residual.ensures
    (freezes_ends c.args.pager.now c.loop-f.pager c.args.ivs.now c.loop-f.ivs c.loop-f.f c.loop-f.frames.items
    c.loop-f.invariant.freezes (omega (arith, c.loop-f-test.true, c.count-f-end.ensures.value)) c.in_err-freeze_frame.ensures.draws m tells)

pub push_reserved-requires : goal.push_reserved-requires
push_reserved-requires c =
    omega (arith, c.loop-f-test.true, c.count-f-end.ensures.value, c.loop-f.invariant.capacity, c.loop-f.invariant.freezes.filled, c.requires.room)

pub loop-f-preserved : goal.loop-f-preserved
loop-f-preserved c = record {
  capacity = c.push_reserved.ensures.capacity ∙ c.loop-f.invariant.capacity;
  freezes =
      freezes_next c.args.pager.now c.loop-f.pager c.freeze_frame.new.pager c.args.ivs.now c.loop-f.ivs c.freeze_frame.new.ivs
      c.loop-f.f c.loop-f.frames.items c.push_reserved.new.self.items _ c.loop-f.invariant.freezes
      (omega (arith, c.loop-f-test.true, c.count-f-end.ensures.value)) c.freeze_frame.ensures.stays c.freeze_frame.ensures.metas
      c.push_reserved.ensures.items c.in_ok-freeze_frame.ensures.draws;
}

pub returns-clause-draws : goal.returns-clause-draws
returns-clause-draws c m tells =
    freezes_all c.args.pager.now c.loop-f.pager c.args.ivs.now c.loop-f.ivs c.loop-f.f c.loop-f.frames.items
    c.loop-f.invariant.freezes (omega (arith, c.loop-f-test.false, c.count-f-end.ensures.value)) m tells
