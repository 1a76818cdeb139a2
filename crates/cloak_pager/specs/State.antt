-- What contracts see of a pager.
use Rattle.std.specs.Prelude.{ℕ, ◌≡◌, ◌≢◌, ◌<◌, ◌≤◌, false, List, [], Option, Some, None, length, slice_index_or}
use Rattle.cloak_base.specs.declared.names.PageId.{PageId}
use Rattle.cloak_base.specs.Pages.{is_of}
use Rattle.cloak_model.specs.Ledger.{Keys, key_in}
use Rattle.protect_meta.specs.Pages.{IsIn}
use Rattle.protect_meta.specs.Table.{MetaRow, meta_at, domains_of}
use Rattle.cloak_pager.specs.Homes.{HomeTable, home_at}
use Rattle.cloak_pager.specs.declared.frame_right.FrameRight.{FrameRight}
use Rattle.cloak_pager.specs.declared.frame_right.FrameRight.TheVariants.{Outside, Clean, Changed, Spent}

pub record PagerState : Type 0 where
  -- the bytes of each frame, and its right
  pub frames : List (List ℕ)
  pub rights : List FrameRight
  -- the metadata of the pages that were shown
  pub table : MetaRow
  pub keys : Keys
  -- how often an outside frame was read
  pub reads : ℕ

-- the key under which a page is sealed: that of its domain
abbrev pub key_for : PagerState → PageId → List ℕ
key_for p q = key_in p.keys q

-- the page that is held under a right
abbrev pub page_of : FrameRight → Option PageId
page_of (Outside r) = None
page_of (Clean r) = Some r.page
page_of (Changed r) = Some r.page
page_of Spent = None

-- the page that a frame under this right has yet to show
abbrev pub owed_under : FrameRight → Option PageId
owed_under (Outside r) = None
owed_under (Clean r) = None
owed_under (Changed r) = Some r.page
owed_under Spent = None

-- the right of a frame
abbrev pub right_at : PagerState → ℕ → FrameRight
right_at p f = slice_index_or p.rights f Spent

-- the bytes in a frame
abbrev pub bytes_in : PagerState → ℕ → List ℕ
bytes_in p f = slice_index_or p.frames f []

-- the page that a frame holds, changed or not; none of an outside frame
abbrev pub held_in : PagerState → ℕ → Option PageId
held_in p f = page_of (right_at p f)

-- the page that a frame has yet to show
abbrev pub owed_at : PagerState → ℕ → Option PageId
owed_at p f = owed_under (right_at p f)

-- page q has no metadata, and no frame holds it
abbrev pub IsFresh : PagerState → PageId → Type 0
IsFresh p q = (meta_at p.table q ≡ None) × ((k : ℕ) → held_in p k ≢ Some q)

-- no frame is owed a page of this resource
abbrev pub IsNoneOwed : PagerState → ℕ → ℕ → Type 0
IsNoneOwed p domain resource = (k : ℕ) (q : PageId) → owed_at p k ≡ Some q → is_of domain resource q ≡ false

-- no frame holds a page of this resource
abbrev pub IsNoneHeld : PagerState → ℕ → ℕ → Type 0
IsNoneHeld p domain resource = (k : ℕ) (q : PageId) → held_in p k ≡ Some q → is_of domain resource q ≡ false

-- This right is one for frame k, of a page that there is. A page that is held unchanged has metadata.
abbrev pub Names : MetaRow → ℕ → FrameRight → Type 0
Names t k (Outside r) = r.0 ≡ k
Names t k (Clean r) = (r.frame.0 ≡ k) × IsIn (domains_of t) r.page × (meta_at t r.page ≢ None)
Names t k (Changed r) = (r.frame.0 ≡ k) × IsIn (domains_of t) r.page
Names t k Spent = ⊥

-- what is true of every pager
pub record IsWholePager (p : PagerState) : Type 0 where
  -- each frame has one right, which stands at its number
  pub count : length p.rights ≡ length p.frames
  pub named : (k : ℕ) → k < length p.frames → Names p.table k (right_at p k)
  -- a page has at most one frame
  pub one_home : (f g : ℕ) (q : PageId) → held_in p f ≡ Some q → held_in p g ≡ Some q → f ≡ g
  pub few : length p.frames ≤ 4096

-- the frame that holds a page is the one noted for it
abbrev pub AreNoted : HomeTable → List FrameRight → Type 0
AreNoted homes rights =
    (k : ℕ) (q : PageId) → page_of (slice_index_or rights k Spent) ≡ Some q → home_at homes q ≡ Some (record { 0 = k })

-- what is true of a pager, with its index of homes
pub record IsWholeWithHomes (p : PagerState) (homes : HomeTable) : Type 0 where
  pub whole : IsWholePager p
  pub noted : AreNoted homes p.rights
  pub domains : homes.domains ≡ domains_of p.table
