-- A pager goes on to stand for a memory.
use Rattle.std.proofs.Common.{◌≡◌, ◌≢◌, ◌<◌, ℕ, Bool, true, false, List, [], Option, None, Some, length, get_or}
use Rattle.std.proofs.Common.{slice_set, refl, ap, sym, ◌∙◌, subst, inl, inr}
use Rattle.std.proofs.lemmas.List.{get_or-set_same, get_or-set_other, length-set, map-set}
use Rattle.std.proofs.Math.ListN.{get_or-map}
use Rattle.aes_block.specs.Bytes.{IsBytes}
use Rattle.cloak_base.specs.declared.names.PageId.{PageId}
use Rattle.cloak_base.specs.Random.{next_draw}
use Rattle.cloak_model.specs.Ledger.{Keys, key_in, key_of}
use Rattle.cloak_model.specs.Cloaking.{CloakedMemory, owed_in}
use Rattle.cloak_base.specs.declared.names.Meta.{Meta}
use Rattle.protect_meta.specs.Table.{meta_at}
use Rattle.cloak_pager.specs.State.{PagerState, IsWholePager, page_of, owed_under, right_at, bytes_in, held_in, owed_at}
use Rattle.cloak_pager.specs.Relation.{StandsForMemory, FrameStands, PageStands, IsUnowed, vector_in}
use Rattle.cloak_pager.specs.declared.frame_right.FrameRight.{FrameRight}
use Rattle.cloak_pager.specs.declared.frame_right.FrameRight.TheVariants.{Outside, Clean, Changed, Spent}
use Rattle.cloak_pager.proofs.Pages.{same_or_not, is_or_not}

-- a frame that is owed a page holds it
pub owed_held : (h : FrameRight) (q : PageId) → owed_under h ≡ Some q → page_of h ≡ Some q
owed_held (Outside r) q e = cc
owed_held (Clean r) q e = cc
owed_held (Changed r) q e = e
owed_held Spent q e = cc

-- what a frame is owed, by its right
pub owed_by_right : (p : PagerState) (w : PageId → Bool) (m : CloakedMemory) → StandsForMemory p w m → (f : ℕ) →
    owed_in m f ≡ owed_at p f
owed_by_right p w m s f =
    ap (λ (x : List (Option PageId)). get_or x f None) s.owed ∙ get_or-map owed_under p.rights f Spent

-- The pager and the memory, turned at frame f, which has this right and these bytes now, and at page q, if one is
-- named: all other frames and pages are as they were.
pub record TurnedAt (p p' : PagerState) (w w' : PageId → Bool) (m m' : CloakedMemory) (f : ℕ) (h : FrameRight) (bytes : List ℕ)
    (q : Option PageId) : Type 0 where
  pub whole : IsWholePager p'
  pub frames : p'.frames ≡ slice_set p.frames f bytes
  pub rights : p'.rights ≡ slice_set p.rights f h
  pub keys : p'.keys ≡ p.keys
  pub keys_same : m'.ledger.keys ≡ m.ledger.keys
  pub ram : length m'.ram ≡ length m.ram
  pub ram_elsewhere : (g : ℕ) → g ≢ f → get_or m'.ram g [] ≡ get_or m.ram g []
  pub owed : m'.ledger.owed ≡ slice_set m.ledger.owed f (owed_under h)
  pub plain : (o : PageId) → q ≢ Some o → m'.plain o ≡ m.plain o
  pub recorded : (o : PageId) → q ≢ Some o → m'.ledger.recorded o ≡ m.ledger.recorded o
  pub vectors : (o : PageId) → q ≢ Some o → m'.ledger.iv o ≡ m.ledger.iv o
  pub metas : (o : PageId) → q ≢ Some o → meta_at p'.table o ≡ meta_at p.table o
  pub lost : (o : PageId) → q ≢ Some o → w' o ≡ w o
  -- the frame held that page or none, and no other frame does
  pub held : (o : PageId) → held_in p f ≡ Some o → q ≡ Some o
  pub alone : (g : ℕ) (o : PageId) → g ≢ f → q ≡ Some o → held_in p g ≢ Some o
  -- the frame and the page themselves
  pub here : f < length p.frames → FrameStands p' w' m' f h
  pub page : (o : PageId) → q ≡ Some o → PageStands (w' o) m' o (meta_at p'.table o)
  pub vector : (o : PageId) → q ≡ Some o → m'.ledger.iv o ≡ vector_in (meta_at p'.table o)
  pub newest : (o : PageId) → q ≡ Some o → w' o ≡ false → IsBytes 4096 (m'.plain o)
  pub drained : (o : PageId) → w' o ≡ true → next_draw m'.ledger.stream ≡ None

-- What is true of page b is true of a page that has the same record. As far as it is about newest bytes, that has a
-- reason of its own.
pub page_as : (lost lost' : Bool) (m m' : CloakedMemory) (b o : PageId) (t : Option Meta) →
    key_of m'.ledger o ≡ key_of m.ledger b → m'.ledger.recorded o ≡ m.ledger.recorded b →
    (lost' ≡ false → IsUnowed m' o → (lost ≡ false) × IsUnowed m b × (m'.plain o ≡ m.plain b)) → PageStands lost m b t →
    PageStands lost' m' o t
page_as lost lost' m m' b o None k r newest s =
    (r ∙ s.0, λ kept unowed. let n = newest kept unowed in n.2 ∙ s.1 n.0 n.1)
page_as lost lost' m m' b o (Some t) k r newest s = record {
  bytes = s.bytes;
  is = r ∙ s.is;
  digest = s.digest;
  sealed = λ kept unowed. let n = newest kept unowed in rw (k, n.2) (s.sealed n.0 n.1);
}

-- a page of which nothing changed
pub page_stays : (lost lost' : Bool) (m m' : CloakedMemory) (o : PageId) (t t' : Option Meta) → lost' ≡ lost → t' ≡ t →
    m'.ledger.keys ≡ m.ledger.keys → m'.plain o ≡ m.plain o → m'.ledger.recorded o ≡ m.ledger.recorded o →
    (IsUnowed m' o → IsUnowed m o) → PageStands lost m o t → PageStands lost' m' o t'
page_stays lost lost' m m' o t t' l e k n r free s =
    subst (λ (x : Option Meta). PageStands lost' m' o x) (sym e)
    (page_as lost lost' m m' o o t (ap (λ (x : Keys). key_in x o) k) r
    (λ kept unowed. (sym l ∙ kept, free unowed, n)) s)

-- nor of its vector
pub vector_stays : (p p' : PagerState) (w : PageId → Bool) (m m' : CloakedMemory) (o : PageId) → StandsForMemory p w m →
    meta_at p'.table o ≡ meta_at p.table o → m'.ledger.iv o ≡ m.ledger.iv o →
    m'.ledger.iv o ≡ vector_in (meta_at p'.table o)
vector_stays p p' w m m' o s e v = v ∙ (s.vectors o ∙ ap vector_in (sym e))

-- a frame of which nothing changed
pub frame_stays : (p p' : PagerState) (w w' : PageId → Bool) (m m' : CloakedMemory) (g : ℕ) (h : FrameRight) →
    bytes_in p' g ≡ bytes_in p g → get_or m'.ram g [] ≡ get_or m.ram g [] → m'.ledger.keys ≡ m.ledger.keys →
    ((o : PageId) → page_of h ≡ Some o → (m'.plain o ≡ m.plain o) × (m'.ledger.recorded o ≡ m.ledger.recorded o)
    × (meta_at p'.table o ≡ meta_at p.table o) × (w' o ≡ w o)) →
    FrameStands p w m g h → FrameStands p' w' m' g h
frame_stays p p' w w' m m' g (Outside r) b e k same s = b ∙ (s ∙ sym e)
frame_stays p p' w w' m m' g (Clean r) b e k same s =
    let is = same r.page refl in
    record {
      newest = λ kept. b ∙ (s.newest (sym is.3 ∙ kept) ∙ sym is.0);
      shown = is.1 ∙ (s.shown ∙ ap (λ (x : List ℕ). Some x) (sym e));
      long = ap (λ (x : List ℕ). length x) b ∙ s.long;
      sealed = λ t at. rw (k, b, e) (s.sealed t (sym is.2 ∙ at));
    }
frame_stays p p' w w' m m' g (Changed r) b e k same s =
    let is = same r.page refl in
    λ kept. b ∙ (s (sym is.3 ∙ kept) ∙ sym is.0)
frame_stays p p' w w' m m' g Spent b e k same s = s

pub stands_turned : (p p' : PagerState) (w w' : PageId → Bool) (m m' : CloakedMemory) (f : ℕ) (h : FrameRight)
    (bytes : List ℕ) (q : Option PageId) →
    StandsForMemory p w m → TurnedAt p p' w w' m m' f h bytes q → StandsForMemory p' w' m'
stands_turned p p' w w' m m' f h bytes q s t = record {
  whole = t.whole;
  keys = t.keys_same ∙ (s.keys ∙ sym t.keys);
  chained = ap (λ (k : Keys). k.seal) t.keys ∙ s.chained;
  count = t.ram ∙ (s.count ∙ sym (rw t.frames (length-set p.frames f bytes)));
  frames = λ g inside.
      let there : g < length p.frames = rw (t.frames, length-set) at inside in
      elim (same_or_not g f) [
        | inl e ↦
            let here : f < length p.frames = subst (λ (x : ℕ). x < length p.frames) e there in
            let right : right_at p' f ≡ h = rw t.rights (get_or-set_same p.rights f h Spent (rw s.whole.count here)) in
            subst (λ (x : ℕ). FrameStands p' w' m' x (right_at p' x)) (sym e)
            (subst (λ (x : FrameRight). FrameStands p' w' m' f x) (sym right) (t.here here))
        | inr n ↦
            let right : right_at p' g ≡ right_at p g = rw t.rights (get_or-set_other p.rights f g h Spent n) in
            subst (λ (x : FrameRight). FrameStands p' w' m' g x) (sym right)
            (frame_stays p p' w w' m m' g (right_at p g)
            (rw t.frames (get_or-set_other p.frames f g bytes [] n))
            (t.ram_elsewhere g n) t.keys_same
            (λ o held. let other : q ≢ Some o = λ e. t.alone g o n e held in
            (t.plain o other, t.recorded o other, t.metas o other, t.lost o other))
            (s.frames g there))
      ];
  owed =
      t.owed ∙ (ap (λ (x : List (Option PageId)). slice_set x f (owed_under h)) s.owed
      ∙ sym (rw t.rights (map-set owed_under p.rights f h)));
  pages = λ o.
      elim (is_or_not q o) [
        | inl e ↦ t.page o e
        | inr n ↦
            page_stays (w o) (w' o) m m' o (meta_at p.table o) (meta_at p'.table o) (t.lost o n)
            (t.metas o n) t.keys_same (t.plain o n) (t.recorded o n) (unowed_before o n) (s.pages o)
      ];
  vectors = λ o.
      elim (is_or_not q o) [
        | inl e ↦ t.vector o e
        | inr n ↦ vector_stays p p' w m m' o s (t.metas o n) (t.vectors o n)
      ];
  plain = λ o kept.
      elim (is_or_not q o) [
        | inl e ↦ t.newest o e kept
        | inr n ↦ rw (t.plain o n) (s.plain o (sym (t.lost o n) ∙ kept))
      ];
  drained = t.drained;
}
  where
    unowed_before : (o : PageId) → q ≢ Some o → IsUnowed m' o → IsUnowed m o
    unowed_before o n free g owes =
        elim (same_or_not g f) [
          | inl e ↦
              let owes' : owed_at p f ≡ Some o = sym (owed_by_right p w m s f)
              ∙ subst (λ (x : ℕ). owed_in m x ≡ Some o) e owes in
              n (t.held o (owed_held (right_at p f) o owes'))
          | inr d ↦
              let same : owed_in m' g ≡ owed_in m g =
              rw t.owed (get_or-set_other m.ledger.owed f g (owed_under h) None d) in
              free g (same ∙ owes)
        ]
