-- What the end of a domain leaves of a memory.
use Rattle.std.specs.Prelude.{ℕ, List}
use Rattle.cloak_model.specs.Cloaking.{CloakedMemory}
use Rattle.cloak_model.specs.Ending.{ask_end, cloak_for}
use Rattle.cloak_model.specs.Exchange.{Piece, Emits, item_pieces}
use Rattle.cloak_model.specs.World.{World, Cloaked, items_of}
use Rattle.cloaked_side.specs.Telling.{HoldsWorld}
use Rattle.cloaked_side.specs.declared.memory.Memory.{Memory}

-- the world after a domain's pages ended
abbrev pub ended_world : CloakedMemory → ℕ → World
ended_world m domain = (ask_end domain (Cloaked (cloak_for m domain))).world

-- The pages of a domain have ended in a memory: what the kernel is shown was emitted.
pub record EndsPages {E : Type 0} (gave : E → E → List Piece → Type 0) (e e' : E) (memory : Memory) (w : World) :
    Type 0 where
  pub emits : Emits gave e e' (item_pieces (items_of w))
  pub holds : HoldsWorld memory w
