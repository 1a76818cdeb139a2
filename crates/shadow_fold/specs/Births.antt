-- The entries that events make.
use Rattle.std.specs.Prelude.{List, [], ◌∷◌, Option}
use Rattle.cloak_base.specs.declared.names.SpaceId.{SpaceId}
use Rattle.cloak_model.specs.Events.{Event, Born}
use Rattle.shadow_fold.specs.declared.entry.Entry.{Entry}
use Rattle.shadow_fold.specs.Fold.{entry_in}

-- P holds of the entry that an event makes, if it makes one
abbrev pub Makes : (Entry → Type 0) → Option SpaceId → Event → Type 0
Makes P space (Born satp a walked cloaked) = P (entry_in space satp a walked cloaked)
Makes P space _ = Unit {0}

-- and of all that events make
abbrev pub MakeAll : (Entry → Type 0) → Option SpaceId → List Event → Type 0
MakeAll P space [] = Unit {0}
MakeAll P space (e ∷ events) = Makes P space e × MakeAll P space events
