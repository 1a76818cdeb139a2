use Rattle.cloaked_fork.proofs.Room.{room_to_copy}
use Rattle.cloaked_fork.proofs.forking.copy_space.Goals as goal

pub copy_space-requires-clause-room : goal.copy_space-requires-clause-room
copy_space-requires-clause-room c = room_to_copy _ _ _ (rw (← c.caller.view_is) at c.requires.room)
