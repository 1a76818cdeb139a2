use Rattle.std.proofs.Common.{arith}
use Rattle.std.proofs.lemmas.Option.{slice_get_within}
use Rattle.cloak_base.specs.Pages.{zero_page}
use Rattle.frame_store.proofs.Slots.{room_left, slot_taken, taken_so}
use Rattle.frame_store.proofs.rights.store.take_slot.Goals as goal

pub push_reserved-requires : goal.push_reserved-requires
push_reserved-requires c = omega (arith, (room_left _ _ _ _ c.requires.slots c.requires.unstored).0)

pub returns-clause-slots : goal.returns-clause-slots
unfolding zero_page
returns-clause-slots c =
    (taken_so c.args.frames.now.items c.push_reserved.new.self.items c.args.slots.now.items _ _ c.args.f c.len-slot.result
    c.requires.slots c.requires.unstored c.push_reserved.ensures.items (omega (arith, c.len-slot.ensures))
    c.push_reserved.ensures.capacity).0

pub returns-clause-same : goal.returns-clause-same
unfolding zero_page
returns-clause-same c =
    (taken_so c.args.frames.now.items c.push_reserved.new.self.items c.args.slots.now.items _ _ c.args.f c.len-slot.result
    c.requires.slots c.requires.unstored c.push_reserved.ensures.items (omega (arith, c.len-slot.ensures))
    c.push_reserved.ensures.capacity).1

pub returns-clause-slot : goal.returns-clause-slot
returns-clause-slot c =
    slot_taken c.args.slots.now.items c.args.f c.len-slot.result
    (slice_get_within c.args.slots.now.items c.args.f 0 c.requires.unstored)
