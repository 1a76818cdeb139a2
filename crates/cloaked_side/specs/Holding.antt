-- What a memory with cloaked pages stands for.
use Rattle.std.specs.Prelude.{ℕ, ◌≡◌, ◌≢◌, ◌%◌, Bool, false, IsTrue, List, Some, None, length}
use Rattle.cloak_base.specs.Constants.{frame_of, is_in_frames}
use Rattle.cloak_base.specs.declared.names.PageId.{PageId}
use Rattle.cloak_model.specs.Effect.{IsWidth}
use Rattle.protect_meta.specs.Table.{domains_of}
use Rattle.cloak_model.specs.Cloaking.{CloakedMemory, AfterSettling}
use Rattle.cloak_model.specs.World.{cipher_items}
use Rattle.cloak_model.specs.Exchange.{Piece, Emits, item_pieces}
use Rattle.cloak_pager.specs.State.{PagerState, held_in, owed_at}
use Rattle.cloak_pager.specs.Relation.{StandsForMemory}
use Rattle.shadow_fold.specs.Keeping.{Agrees}
use Rattle.shadow_law.specs.Agreeing.{present}
use Rattle.cloaked_side.specs.declared.memory.Memory.{Memory}

-- The memory stands for these frames, pages and this ledger. The newest bytes of a page are lost only if a draw was
-- missing. Each live translation leads where a walk would lead now. The reservations are those of the harts.
pub record Holds (memory : Memory) (m : CloakedMemory) : Type 0 where
  pub wiped : PageId → Bool
  pub pager : StandsForMemory memory.pager wiped m
  pub whole : memory.missed ≡ false → (q : PageId) → wiped q ≡ false
  pub stream : m.ledger.stream ≡ memory.stream
  pub draws : memory.draws ≡ m.ledger.draws
  pub missed : memory.missed ≡ m.ledger.missed
  pub agrees : Agrees (present (held_in memory.pager) m) memory.shadows
  pub room : memory.shadows.frames ≡ length memory.pager.frames
  pub marks : memory.reservations ≡ m.marks

-- how many frames and domains there are
abbrev pub frames_of : Memory → ℕ
frames_of memory = length memory.pager.frames

abbrev pub domains_in : Memory → ℕ
domains_in memory = domains_of memory.pager.table

-- A value of 1, 2 or 4 bytes lies at an address in a frame that holds no page.
pub record IsValueOutside (memory : Memory) (pa bytes : ℕ) : Type 0 where
  pub inside : IsTrue (is_in_frames (frames_of memory) pa)
  pub outside : held_in memory.pager (frame_of pa) ≡ None
  pub width : IsWidth bytes
  pub aligned : pa % bytes ≡ 0

-- a call left as many frames and domains as there were
pub record SameSize (old new : Memory) : Type 0 where
  pub frames : frames_of new ≡ frames_of old
  pub domains : domains_in new ≡ domains_in old

-- No frame holds a page that it did not hold, nor is owed one that it was not owed.
pub record HoldsNoMore (old new : PagerState) : Type 0 where
  pub held : (k : ℕ) (q : PageId) → held_in new k ≡ Some q → held_in old k ≡ Some q
  pub owed : (k : ℕ) (q : PageId) → owed_at new k ≡ Some q → owed_at old k ≡ Some q

-- no frame holds a page but q that it did not hold
abbrev pub HoldsNoOther : PageId → PagerState → PagerState → Type 0
HoldsNoOther q old new = (k : ℕ) (p : PageId) → p ≢ q → held_in new k ≡ Some p → held_in old k ≡ Some p

-- frame was settled so, and what the kernel is shown was emitted
pub record Settles {E : Type 0} (gave : E → E → List Piece → Type 0) (e e' : E) (new : Memory)
    (s : AfterSettling) : Type 0 where
  pub holds : Holds new s.memory
  pub emits : Emits gave e e' (item_pieces (cipher_items s.ciphers))
