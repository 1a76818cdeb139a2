-- When a pager stands for what the rules of cloaking speak of.
use Rattle.std.specs.Prelude.{ℕ, ◌≡◌, ◌≢◌, ◌<◌, Bool, true, false, List, [], Option, Some, None, length, map, option_map}
use Rattle.std.specs.Prelude.{slice_index_or}
use Rattle.sha2.specs.Sha256.{sha256}
use Rattle.aes_block.specs.Bytes.{IsBytes}
use Rattle.cloak_base.specs.declared.names.PageId.{PageId}
use Rattle.cloak_base.specs.Random.{next_draw}
use Rattle.cloak_model.specs.Chain.{cbc}
use Rattle.cloak_model.specs.Sealing.{Chained}
use Rattle.cloak_model.specs.Ledger.{key_of}
use Rattle.cloak_base.specs.Pages.{zero_page}
use Rattle.cloak_model.specs.Cloaking.{CloakedMemory, owed_in}
use Rattle.cloak_base.specs.declared.names.Meta.{Meta}
use Rattle.protect_meta.specs.Table.{meta_at}
use Rattle.cloak_pager.specs.State.{PagerState, IsWholePager, owed_under, right_at, bytes_in}
use Rattle.cloak_pager.specs.declared.frame_right.FrameRight.{FrameRight}
use Rattle.cloak_pager.specs.declared.frame_right.FrameRight.TheVariants.{Outside, Clean, Changed, Spent}

-- no frame is owed page q
abbrev pub IsUnowed : CloakedMemory → PageId → Type 0
IsUnowed m q = (f : ℕ) → owed_in m f ≢ Some q

-- Frame f holds page q unchanged: its newest bytes, if they are not lost, while the kernel sees the ciphertext last
-- shown, which is that of the bytes held.
pub record HoldsClean (p : PagerState) (lost : Bool) (m : CloakedMemory) (f : ℕ) (q : PageId) : Type 0 where
  pub newest : lost ≡ false → bytes_in p f ≡ m.plain q
  pub shown : m.ledger.recorded q ≡ Some (slice_index_or m.ram f [])
  pub long : length (bytes_in p f) ≡ 4096
  pub sealed : (t : Meta) → meta_at p.table q ≡ Some t →
      cbc (key_of m.ledger q) t.iv (bytes_in p f) ≡ slice_index_or m.ram f []

-- what frame f holds under this right
abbrev pub FrameStands : PagerState → (PageId → Bool) → CloakedMemory → ℕ → FrameRight → Type 0
FrameStands p wiped m f (Outside r) = bytes_in p f ≡ slice_index_or m.ram f []
FrameStands p wiped m f (Clean r) = HoldsClean p (wiped r.page) m f r.page
FrameStands p wiped m f (Changed r) = wiped r.page ≡ false → bytes_in p f ≡ m.plain r.page
FrameStands p wiped m f Spent = ⊥

-- this metadata tells of what was last shown of page q
pub record IsRecorded (lost : Bool) (m : CloakedMemory) (q : PageId) (t : Meta) : Type 0 where
  pub bytes : List ℕ
  pub is : m.ledger.recorded q ≡ Some bytes
  pub digest : sha256 bytes ≡ t.digest
  pub sealed : lost ≡ false → IsUnowed m q → bytes ≡ cbc (key_of m.ledger q) t.iv (m.plain q)

-- what is true of page q, by its metadata: without any it was never shown, and is zeros until a frame is owed it
abbrev pub PageStands : Bool → CloakedMemory → PageId → Option Meta → Type 0
PageStands lost m q None = (m.ledger.recorded q ≡ None) × (lost ≡ false → IsUnowed m q → m.plain q ≡ zero_page)
PageStands lost m q (Some t) = IsRecorded lost m q t

-- the vector that metadata has, if there is some
abbrev pub vector_in : Option Meta → Option (List ℕ)
vector_in t = option_map (λ (x : Meta). x.iv) t

-- The pager stands for the memory. The newest bytes of the wiped pages are lost: changed bytes of them had to be shown
-- and no draw was left. Only of these pages nothing is said about the newest bytes.
pub record StandsForMemory (p : PagerState) (wiped : PageId → Bool) (m : CloakedMemory) : Type 0 where
  pub whole : IsWholePager p
  pub keys : m.ledger.keys ≡ p.keys
  pub chained : p.keys.seal ≡ Chained
  -- each frame holds what it must hold, and is owed a page exactly if it holds a changed one
  pub count : length m.ram ≡ length p.frames
  pub frames : (f : ℕ) → f < length p.frames → FrameStands p wiped m f (right_at p f)
  pub owed : m.ledger.owed ≡ map owed_under p.rights
  -- metadata is there exactly where a record is
  pub pages : (q : PageId) → PageStands (wiped q) m q (meta_at p.table q)
  -- and has the vector under which the record was sealed
  pub vectors : (q : PageId) → m.ledger.iv q ≡ vector_in (meta_at p.table q)
  -- the newest bytes of a page are a page
  pub plain : (q : PageId) → wiped q ≡ false → IsBytes 4096 (m.plain q)
  -- a page is wiped only if no draw is left
  pub drained : (q : PageId) → wiped q ≡ true → next_draw m.ledger.stream ≡ None
