-- Room for a fork.
use Rattle.std.proofs.Common.{Bool, true, false, ◌&&◌}
use Rattle.std.specs.Prelude.{IsTrue}

-- if there is a slot, a space and room for copies, there is room for copies
pub room_to_copy : (slot space copies : Bool) → IsTrue (slot && (space && copies)) → IsTrue copies
room_to_copy true true copies room = room
room_to_copy true false copies room = cc
room_to_copy false space copies room = cc
