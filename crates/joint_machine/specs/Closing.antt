-- What the closing results in.
use Rattle.std.specs.Prelude.{List}
use Rattle.cloak_model.specs.Exchange.{Piece, Emits, item_pieces}
use Rattle.cloak_model.specs.World.{MidStep}
use Rattle.cloaked_side.specs.Holding.{Holds}
use Rattle.cloaked_side.specs.declared.memory.Memory.{Memory}

-- frames were settled so, and what the kernel is shown was emitted
pub record SettlesFrames {E : Type 0} (gave : E → E → List Piece → Type 0) (e e' : E) (memory : Memory) (c : MidStep) : Type 0 where
  pub holds : Holds memory c.memory
  pub emits : Emits gave e e' (item_pieces c.items)
