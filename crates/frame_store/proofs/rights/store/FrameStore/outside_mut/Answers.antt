use Rattle.std.proofs.Common.{◌≡◌, ◌∙◌, ap, sym, refl, slice_get}
use Rattle.std.proofs.Math.ListN.{set}
use Rattle.cloak_base.specs.declared.names.Frame.{Frame}
use Rattle.frame_store.proofs.Slots.{still, stored, shown_at}
use Rattle.frame_store.proofs.rights.store.FrameStore.outside_mut.Goals as goal

pub invariant_of-self-lent : goal.invariant_of-self-lent
invariant_of-self-lent c w =
    let e = c.reach-slot.ensures in
    still c.reach-slot.new.frames.items c.reach-slot.new.slots.items _ c.reach-slot.result w e.slots e.stored

pub returns : goal.returns
returns c =
    let e = c.reach-slot.ensures in
    let kept = c.reach-slot.new.frames.items in
    let slots = c.reach-slot.new.slots.items in
    let all = c.args.self.now in
    let f = c.r.inside.frame.0 in
    let same : f ≡ c.args.r.now.0 = ap (λ (x : Frame). x.0) c.r.view_is in
    let is = e.same ∙ c.self.view_is in (
      (refl, λ w. stored kept slots all _ f c.reach-slot.result w e.slots is e.slot e.stored ∙ ap (λ k. set all k w) same),
      record {
        writes_back = tt;
        value =
            ap (λ k. slice_get all k) (sym same)
            ∙ shown_at kept slots all _ f c.reach-slot.result c.index_mut.result.now e.slots is e.slot c.index_mut.ensures.value;
      },
    )
