use Rattle.std.proofs.Common.{◌∙◌, Some, map, refl, ap, sym}
use Rattle.frozen_state.specs.FrozenState.{hart_with}
use Rattle.joint_machine.proofs.Freezes.{freezes_joint, frozen_none, frozen_undrawn, room_for, tells_all, tells_frames}
use Rattle.joint_machine.proofs.joint.Joint.freeze.Goals as goal
use Rattle.joint_machine.proofs.Lent.{lends_pager}

pub returns-then-not-has_room-clause-state : goal.returns-then-not-has_room-clause-state
returns-then-not-has_room-clause-state c j stands drawn room =
    absurd (c.if-not-has_room.ensures.short refl (room_for c.args.self j _ _ _ c.args.room stands (c.len.ensures ∙ c.args.self.harts.ok.0)
    c.count-count.ensures.value (c.len-2.ensures ∙ c.args.self.domains.ok.0) room))

pub returns-in_err-frozen-clause-state : goal.returns-in_err-frozen-clause-state
returns-in_err-frozen-clause-state c j stands drawn room =
    let lends = c.reseal_all.ensures.lends j.memory (lends_pager c.args.self j stands) stands.memory.stream in
    rw c.from_residual.ensures
    (sym (frozen_none j c.args.steps c.args.ivs.now (c.in_err-frozen.ensures j
    (tells_all c.args.self j c.reseal_all.new.pager _ stands lends c.as_slice.ensures.value))))

pub returns-in_err-frames-clause-state : goal.returns-in_err-frames-clause-state
returns-in_err-frames-clause-state c j stands drawn room =
    let lends = c.reseal_all.ensures.lends j.memory (lends_pager c.args.self j stands) stands.memory.stream in
    rw c.from_residual-in_err-frames.ensures
    (sym (frozen_undrawn j c.args.steps c.args.ivs.now c.freeze_domains.new.ivs _ (c.in_ok-frozen.ensures j
    (tells_all c.args.self j c.reseal_all.new.pager _ stands lends c.as_slice.ensures.value))
    (c.in_err-frames.ensures.draws j.memory (tells_frames c.reseal_all.new.pager j.memory lends drawn c.reseal_all.ensures.settled))))

pub returns-clause-state : goal.returns-clause-state
returns-clause-state c j stands drawn room =
    let lends = c.reseal_all.ensures.lends j.memory (lends_pager c.args.self j stands) stands.memory.stream in
    ap (λ f. Some f) c.fill.ensures
    ∙ freezes_joint c.args.self j c.args.steps c.args.ivs.now c.freeze_domains.new.ivs c.freeze_frames.new.ivs c.reseal_all.new.pager
    _ _ _ _ _ _ stands lends (c.in_ok-frozen.ensures j
    (tells_all c.args.self j c.reseal_all.new.pager _ stands lends c.as_slice.ensures.value))
    (c.in_ok-frames.ensures.draws j.memory (tells_frames c.reseal_all.new.pager j.memory lends drawn c.reseal_all.ensures.settled))
    (c.freeze_harts.ensures ∙ ap (map (hart_with c.args.self.memory.reservations)) c.as_slice-2.ensures.value) c.into_bytes.ensures
    c.freeze_recorded-recorded.ensures.known (c.len-3.ensures ∙ c.args.self.domains.ok.0)
