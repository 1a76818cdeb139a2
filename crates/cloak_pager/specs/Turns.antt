-- What each call makes of a pager, and what its answer is, by the pager alone.
use Rattle.std.specs.Prelude.{ℕ, ◌≡◌, ◌≢◌, ◌+◌, ◌-◌, ◌<◌, ◌^◌, Bool, true, false, min, List, Option, Some, None}
use Rattle.std.specs.Prelude.{length, replicate, slice_set, if◌then◌else◌}
use Rattle.std.specs.Str.{bytes_eq}
use Rattle.sha2.specs.Sha256.{sha256}
use Rattle.cloak_base.specs.declared.names.Frame.{Frame}
use Rattle.cloak_base.specs.declared.names.PageId.{PageId}
use Rattle.cloak_base.specs.Pages.{zero_page, with_page, with_resource, with_copied}
use Rattle.cloak_base.specs.Random.{Random}
use Rattle.cloak_model.specs.Chain.{cbc}
use Rattle.cloak_model.specs.Ledger.{Keys}
use Rattle.cloak_base.specs.declared.names.Meta.{Meta}
use Rattle.protect_meta.specs.Table.{meta_at, domains_of}
use Rattle.frame_store.specs.Rights.{Holding}
use Rattle.page_states.specs.Opening.{OpensTo}
use Rattle.cloak_pager.specs.State.{PagerState, key_for, right_at, bytes_in, held_in}
use Rattle.cloak_pager.specs.declared.frame_right.FrameRight.{FrameRight}
use Rattle.cloak_pager.specs.declared.frame_right.FrameRight.TheVariants.{Outside, Clean, Changed, Spent}
use Rattle.cloak_pager.specs.declared.touching.Touched.{Touched}
use Rattle.cloak_pager.specs.declared.touching.Touched.TheVariants.{Quiet, Resealed, Sealed, Wiped}
use Rattle.cloak_pager.specs.declared.offering.Offered.{Offered}
use Rattle.cloak_pager.specs.declared.offering.Offered.TheVariants.{Ready, Mismatch}

-- The pager has these frames, these rights and this metadata now. The keys, and how many domains there are and how
-- often frames were read, stay.
pub record Turns (old new : PagerState) (frames : List (List ℕ)) (rights : List FrameRight) (metas : PageId → Option Meta) :
    Type 0 where
  pub frames_are : new.frames ≡ frames
  pub rights_are : new.rights ≡ rights
  pub metas_are : (o : PageId) → meta_at new.table o ≡ metas o
  pub domains_stay : domains_of new.table ≡ domains_of old.table
  pub keys_stay : new.keys ≡ old.keys
  pub reads_stay : new.reads ≡ old.reads

-- A call changed frame f at most: all other frames are as they were, and there are as many frames and domains.
pub record StaysBut (f : ℕ) (old new : PagerState) : Type 0 where
  pub count : length new.frames ≡ length old.frames
  pub domains : domains_of new.table ≡ domains_of old.table
  pub keys : new.keys ≡ old.keys
  pub rights : (k : ℕ) → k ≢ f → right_at new k ≡ right_at old k
  pub bytes : (k : ℕ) → k ≢ f → bytes_in new k ≡ bytes_in old k

-- the frame of this number
abbrev pub frame_numbered : ℕ → Frame
frame_numbered f = record { 0 = f }

-- frame f with page q
abbrev pub holding : ℕ → PageId → Holding
holding f q = record { frame = frame_numbered f; page = q }

abbrev pub IsClean : FrameRight → Type 0
IsClean (Outside r) = ⊥
IsClean (Clean r) = Unit {0}
IsClean (Changed r) = ⊥
IsClean Spent = ⊥

abbrev pub IsChanged : FrameRight → Type 0
IsChanged (Outside r) = ⊥
IsChanged (Clean r) = ⊥
IsChanged (Changed r) = Unit {0}
IsChanged Spent = ⊥

-- Frame f is outside and shows these bytes, and the pages have this metadata.
abbrev pub ShowsNow : PagerState → PagerState → ℕ → List ℕ → (PageId → Option Meta) → Type 0
ShowsNow old new f bytes metas =
    Turns old new (slice_set old.frames f bytes) (slice_set old.rights f (Outside (frame_numbered f))) metas

-- Frame f, held unchanged as page q, is sealed again under the IV of its metadata.
abbrev pub IsResealed : PagerState → PagerState → ℕ → PageId → Type 0
IsResealed old new f q =
    (t : Meta) × (meta_at old.table q ≡ Some t)
    × ShowsNow old new f (cbc (key_for old q) t.iv (bytes_in old f)) (meta_at old.table)

-- the metadata of the pages, when page q was shown as these bytes under this IV
abbrev pub metas_with : PagerState → PageId → List ℕ → List ℕ → PageId → Option Meta
metas_with p q iv bytes = with_page (meta_at p.table) q (Some (record { iv = iv; digest = sha256 bytes }))

-- Frame f, held changed as page q, is sealed under this IV, and the page's metadata tells of that.
abbrev pub IsSealed : PagerState → PagerState → ℕ → PageId → List ℕ → Type 0
IsSealed old new f q iv =
    let c = cbc (key_for old q) iv (bytes_in old f) in ShowsNow old new f c (metas_with old q iv c)

-- Frame f shows zeros.
abbrev pub IsWiped : PagerState → PagerState → ℕ → Type 0
IsWiped old new f = ShowsNow old new f zero_page (meta_at old.table)

-- Touching.

-- by the right of the frame and the draw that is there
abbrev pub touched_by : FrameRight → Option (List ℕ × Random) → Touched
touched_by (Outside r) draw = Quiet
touched_by (Clean r) draw = Resealed
touched_by (Changed r) (Some draw) = Sealed
touched_by (Changed r) None = Wiped
touched_by Spent draw = Quiet

abbrev pub TouchTurns : FrameRight → Option (List ℕ × Random) → PagerState → PagerState → ℕ → Type 0
TouchTurns (Outside r) draw old new f = new ≡ old
TouchTurns (Clean r) draw old new f = IsResealed old new f r.page
TouchTurns (Changed r) (Some draw) old new f = IsSealed old new f r.page draw.0
TouchTurns (Changed r) None old new f = IsWiped old new f
TouchTurns Spent draw old new f = ⊥

-- the stream after a touch: only a changed frame takes a draw
abbrev pub left_by : FrameRight → Option (List ℕ × Random) → Random → Random
left_by (Changed r) (Some draw) stream = draw.1
left_by (Changed r) None stream = stream
left_by (Outside r) draw stream = stream
left_by (Clean r) draw stream = stream
left_by Spent draw stream = stream

-- Offering.

-- by the page's metadata and the bytes in the frame
abbrev pub shown_by_digest : Meta → List ℕ → Offered
shown_by_digest t bytes = if bytes_eq (sha256 bytes) t.digest then Ready else Mismatch

-- by the right of the frame, the page's metadata and the bytes in the frame
abbrev pub end_of_offer : FrameRight → Option Meta → List ℕ → Offered
end_of_offer (Outside r) (Some t) bytes = shown_by_digest t bytes
end_of_offer (Outside r) None bytes = Ready
end_of_offer (Clean r) shown bytes = Ready
end_of_offer (Changed r) shown bytes = Ready
end_of_offer Spent shown bytes = Ready

-- the right of a frame that holds page q, for writing as changed
abbrev pub right_for : ℕ → PageId → Bool → FrameRight
right_for g q write = if write then Changed (holding g q) else Clean (holding g q)

-- Frame g holds page q with these bytes, for writing as changed.
abbrev pub HoldsNow : PagerState → PagerState → PageId → ℕ → Bool → List ℕ → Type 0
HoldsNow old new q g write plain =
    Turns old new (slice_set old.frames g plain) (slice_set old.rights g (right_for g q write)) (meta_at old.table)

-- what an offer in an outside frame makes of the pager, if the page was shown
abbrev pub ShownTurns : Offered → Meta → Bool → PagerState → PagerState → PageId → ℕ → Type 0
ShownTurns Ready t write old new q g =
    OpensTo (key_for old q) t.iv (bytes_in old g) (λ plain. HoldsNow old new q g write plain)
ShownTurns Mismatch t write old new q g = new ≡ old

-- what an accepted offer makes of the pager
abbrev pub OfferTurns : FrameRight → Option Meta → Bool → PagerState → PagerState → PageId → ℕ → Type 0
OfferTurns (Outside r) (Some t) write old new q g = ShownTurns Ready t write old new q g
OfferTurns (Outside r) None write old new q g = HoldsNow old new q g true zero_page
OfferTurns (Clean r) shown true old new q g = HoldsNow old new q g true (bytes_in old g)
OfferTurns (Clean r) shown false old new q g = new ≡ old
OfferTurns (Changed r) shown write old new q g = new ≡ old
OfferTurns Spent shown write old new q g = ⊥

-- a refused offer changes nothing
abbrev pub OfferedTurns : Offered → FrameRight → Option Meta → Bool → PagerState → PagerState → PageId → ℕ → Type 0
OfferedTurns Ready h shown write old new q g = OfferTurns h shown write old new q g
OfferedTurns Mismatch h shown write old new q g = new ≡ old

-- Placing. A page is placed if a draw is left.

-- Frame f shows these bytes of page q sealed under this IV, and the page's metadata tells of that.
abbrev pub IsPlaced : PagerState → PagerState → PageId → ℕ → List ℕ → List ℕ → Type 0
IsPlaced old new q f bytes iv =
    let c = cbc (key_for old q) iv bytes in
    Turns old new (slice_set old.frames f c) old.rights (metas_with old q iv c)

abbrev pub PlaceTurns :
    Option (List ℕ × Random) → Random → PagerState → PagerState → Random → PageId → ℕ → List ℕ → Type 0
PlaceTurns None stream old new left q f bytes = (new ≡ old) × (left ≡ stream)
PlaceTurns (Some draw) stream old new left q f bytes = IsPlaced old new q f bytes draw.0 × (left ≡ draw.1)

-- Metadata alone.

-- the pages have this metadata now, and all frames are as they were
abbrev pub MetasTurn : PagerState → PagerState → (PageId → Option Meta) → Type 0
MetasTurn old new metas = Turns old new old.frames old.rights metas

-- page q has this metadata now
abbrev pub IsRestored : PagerState → PagerState → PageId → Meta → Type 0
IsRestored old new q t = MetasTurn old new (with_page (meta_at old.table) q (Some t))

-- each page of one resource of a domain has the metadata of the page of another
abbrev pub CopiesPages : PagerState → PagerState → ℕ → ℕ → ℕ → Type 0
CopiesPages old new domain from to = MetasTurn old new (with_copied (meta_at old.table) domain from to)

-- the pages of a resource have no metadata
abbrev pub DropsPages : PagerState → PagerState → ℕ → ℕ → Type 0
DropsPages old new domain resource = MetasTurn old new (with_resource (meta_at old.table) domain resource None)

-- Reading and writing.

-- the pager has these bytes in frame f now
abbrev pub HasBytes : PagerState → PagerState → ℕ → List ℕ → Type 0
HasBytes old new f bytes = Turns old new (slice_set old.frames f bytes) old.rights (meta_at old.table)

-- a frame was read once more, up to the last count
abbrev pub IsReadOnce : PagerState → PagerState → Type 0
IsReadOnce old new = new ≡ record old { reads = min (old.reads + 1) (2 ^ 64 - 1) }

-- Closing.

-- what closing makes of a frame that is owed nothing
abbrev pub CloseTurns : FrameRight → PagerState → PagerState → ℕ → Type 0
CloseTurns (Outside r) old new f = new ≡ old
CloseTurns (Clean r) old new f = IsResealed old new f r.page
CloseTurns (Changed r) old new f = ⊥
CloseTurns Spent old new f = ⊥

-- a frame shows these bytes when all is closed: one that was held unchanged shows its record again
abbrev pub ShowsClosed : PagerState → ℕ → FrameRight → List ℕ → Type 0
ShowsClosed old f (Outside r) bytes = bytes ≡ bytes_in old f
ShowsClosed old f (Clean r) bytes =
    (t : Meta) × (meta_at old.table r.page ≡ Some t) × (bytes ≡ cbc (key_for old r.page) t.iv (bytes_in old f))
ShowsClosed old f (Changed r) bytes = ⊥
ShowsClosed old f Spent bytes = ⊥

-- every frame is outside, and nothing else changed
pub record IsClosed (old new : PagerState) : Type 0 where
  pub count : length new.frames ≡ length old.frames
  pub outside : (k : ℕ) → k < length old.frames → right_at new k ≡ Outside (frame_numbered k)
  pub empty : (k : ℕ) → held_in new k ≡ None
  pub bytes : (k : ℕ) → k < length old.frames → ShowsClosed old k (right_at old k) (bytes_in new k)
  pub metas_stay : (o : PageId) → meta_at new.table o ≡ meta_at old.table o
  pub domains_stay : domains_of new.table ≡ domains_of old.table
  pub keys_stay : new.keys ≡ old.keys
  pub reads_stay : new.reads ≡ old.reads

-- Opening.

-- what a pager is at first
pub record IsNewPager (frames domains : ℕ) (keys : Keys) (p : PagerState) : Type 0 where
  pub zeros : p.frames ≡ replicate frames zero_page
  pub count : length p.rights ≡ frames
  pub outside : (k : ℕ) → k < frames → right_at p k ≡ Outside (frame_numbered k)
  pub no_metas : (o : PageId) → meta_at p.table o ≡ None
  pub domains_are : domains_of p.table ≡ domains
  pub keys_are : p.keys ≡ keys
  pub no_reads : p.reads ≡ 0
