-- What a step of a hart tells.
use Rattle.std.specs.Prelude.{◌≡◌, List}
use Rattle.cloak_model.specs.World.{World, Flat, Cloaked, Alone, items_of}
use Rattle.cloak_model.specs.Asking.{Told}
use Rattle.cloak_model.specs.Exchange.{Piece, Emits, item_pieces}
use Rattle.cloaked_side.specs.Holding.{Holds}
use Rattle.cloaked_side.specs.declared.memory.Memory.{Memory}

-- the memory is that of a world
abbrev pub HoldsWorld : Memory → World → Type 0
HoldsWorld memory (Flat ram) = ⊥
HoldsWorld memory (Alone handed) = ⊥
HoldsWorld memory (Cloaked c) = Holds memory c.memory

-- What was told has come about: the answer, the items, and the memory.
pub record TellsSide {E A : Type 0} (gave : E → E → List Piece → Type 0) (e e' : E) (memory : Memory) (given : A)
    (told : Told A) :
    Type 0 where
  pub answer : given ≡ told.answer
  pub emits : Emits gave e e' (item_pieces (items_of told.world))
  pub holds : HoldsWorld memory told.world
