use Rattle.std.proofs.Common.{◌∙◌}
use Rattle.frame_store.proofs.Slots.{stored}
use Rattle.frame_store.proofs.rights.store.FrameStore.fill.Goals as goal

pub returns : goal.returns
returns c =
    let e = c.reach-slot.ensures in
    stored c.reach-slot.new.frames.items c.reach-slot.new.slots.items c.args.self.now _ c.args.f.0 c.reach-slot.result c.args.new.now
    e.slots (e.same ∙ c.self.view_is) e.slot e.stored
