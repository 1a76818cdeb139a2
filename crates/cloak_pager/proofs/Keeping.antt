-- What stays true of a pager when one frame turns.
use Rattle.std.proofs.Common.{◌≡◌, ◌≢◌, ◌<◌, ℕ, List, Option, None, Some, length, get_or, slice_set, refl, ap, sym, ◌∙◌}
use Rattle.std.proofs.Common.{subst, ◌⊎◌, inl, inr}
use Rattle.std.proofs.lemmas.List.{get_or-set_same, get_or-set_other, length-set, get_or_default}
use Rattle.cloak_base.specs.declared.names.Frame.{Frame}
use Rattle.cloak_base.specs.declared.names.PageId.{PageId}
use Rattle.cloak_base.specs.Pages.{with_page}
use Rattle.cloak_base.specs.declared.names.Meta.{Meta}
use Rattle.protect_meta.specs.PageRow.{HasValues}
use Rattle.protect_meta.specs.Table.{MetaRow, meta_at, domains_of}
use Rattle.cloak_pager.specs.Homes.{HomeTable, home_at}
use Rattle.cloak_pager.specs.State.{PagerState, IsWholePager, IsWholeWithHomes, Names, AreNoted, page_of, right_at}
use Rattle.cloak_pager.specs.State.{held_in}
use Rattle.cloak_pager.specs.Turns.{Turns, MetasTurn, frame_numbered}
use Rattle.cloak_pager.specs.declared.frame_right.FrameRight.{FrameRight}
use Rattle.cloak_pager.specs.declared.frame_right.FrameRight.TheVariants.{Outside, Clean, Changed, Spent}
use Rattle.cloak_pager.proofs.Pages.{same_or_not, with_page-same, with_page-other}

-- The pager is whole, f is one of its frames, and this is the frame's right.
pub record HasRight (p : PagerState) (f : ℕ) (h : FrameRight) : Type 0 where
  pub whole : IsWholePager p
  pub inside : f < length p.frames
  pub at : right_at p f ≡ h

-- the right that was taken out, by what is known where it is used
pub right_seen : {p now : PagerState} {seen : FrameRight} (f : ℕ) (h : FrameRight) → p ≡ now → IsWholePager p →
    f < length now.frames → seen ≡ get_or p.rights f seen → h ≡ seen → HasRight p f h
right_seen {p} {now} {seen} f h view w within e is =
    let inside : f < length p.frames = rw (← view) at within in
    let there : f < length p.rights = rw w.count inside in
    record { whole = w; inside = inside; at = get_or_default p.rights f Spent seen there ∙ (sym e ∙ sym is) }

-- the same of the pager as its callers see it
pub right_now : {p now : PagerState} {seen : FrameRight} (f : ℕ) (h : FrameRight) → p ≡ now → IsWholePager p →
    f < length now.frames → seen ≡ get_or p.rights f seen → seen ≡ h → HasRight now f h
right_now {p} f h view w within e is =
    subst (λ (x : PagerState). HasRight x f h) view (right_seen f h view w within e (sym is))

-- what the frame's right says
pub named_as : {p : PagerState} {f : ℕ} {h : FrameRight} → HasRight p f h → Names p.table f h
named_as {p} {f} {h} r = let N : FrameRight → Type 0 = λ x. Names p.table f x in subst N r.at (r.whole.named f r.inside)

-- the right of a frame after another one was put in a place
pub right_put : (rights : List FrameRight) (f : ℕ) (h : FrameRight) (k : ℕ) (q : PageId) → f < length rights →
    page_of (get_or (slice_set rights f h) k Spent) ≡ Some q →
    ((k ≡ f) × (page_of h ≡ Some q)) ⊎ ((k ≢ f) × (page_of (get_or rights k Spent) ≡ Some q))
right_put rights f h k q inside held =
    elim (same_or_not k f) [
      | inl e ↦
          let P : ℕ → Type 0 = λ x. page_of (get_or (slice_set rights f h) x Spent) ≡ Some q in
          inl (e, sym (ap page_of (get_or-set_same rights f h Spent inside)) ∙ subst P e held)
      | inr n ↦ inr (n, sym (ap page_of (get_or-set_other rights f k h Spent n)) ∙ held)
    ]

-- a right that names frame k still does if the metadata of its page did not go
pub names_stay : (t t' : MetaRow) (k : ℕ) (h : FrameRight) → domains_of t' ≡ domains_of t →
    ((o : PageId) → page_of h ≡ Some o → meta_at t o ≢ None → meta_at t' o ≢ None) → Names t k h → Names t' k h
names_stay t t' k (Outside r) d keeps n = n
names_stay t t' k (Clean r) d keeps n = (n.0, rw d n.1, keeps r.page refl n.2)
names_stay t t' k (Changed r) d keeps n = (n.0, rw d n.1)
names_stay t t' k Spent d keeps n = n

-- the right of each frame stays if none was turned
pub rights_stay : (old new : PagerState) (frames : List (List ℕ)) (metas : PageId → Option Meta) →
    Turns old new frames old.rights metas → (k : ℕ) → right_at new k ≡ right_at old k
rights_stay old new frames metas t k = ap (λ (x : List FrameRight). get_or x k Spent) t.rights_are

-- a pager is whole while its rights stay, and the metadata of the pages that are held
pub whole_still : (p p' : PagerState) (frames : List (List ℕ)) (metas : PageId → Option Meta) → IsWholePager p →
    Turns p p' frames p.rights metas → length frames ≡ length p.frames →
    ((k : ℕ) (o : PageId) → held_in p k ≡ Some o → meta_at p.table o ≢ None → metas o ≢ None) → IsWholePager p'
whole_still p p' frames metas w t long keeps =
    let count : length p'.frames ≡ length p.frames = rw t.frames_are long in
    let right : (k : ℕ) → right_at p' k ≡ right_at p k = rights_stay p p' frames metas t in
    record {
      count = ap (λ (x : List FrameRight). length x) t.rights_are ∙ (w.count ∙ sym count);
      named = λ k within.
          let N : FrameRight → Type 0 = λ x. Names p'.table k x in
          let there : Names p.table k (right_at p k) = w.named k (rw (← count) within) in
          subst N (sym (right k))
          (names_stay p.table p'.table k (right_at p k) t.domains_stay
          (λ o here shown. rw t.metas_are (keeps k o here shown)) there);
      one_home = λ f g q at at'. w.one_home f g q (ap page_of (sym (right f)) ∙ at) (ap page_of (sym (right g)) ∙ at');
      few = rw count w.few;
    }

-- and kept, if the homes stay too
pub kept_still : (p p' : PagerState) (homes : HomeTable) (frames : List (List ℕ)) (metas : PageId → Option Meta) →
    IsWholeWithHomes p homes → Turns p p' frames p.rights metas → length frames ≡ length p.frames →
    ((k : ℕ) (o : PageId) → held_in p k ≡ Some o → meta_at p.table o ≢ None → metas o ≢ None) →
    IsWholeWithHomes p' homes
kept_still p p' homes frames metas k t long keeps = record {
  whole = whole_still p p' frames metas k.whole t long keeps;
  noted = rw t.rights_are k.noted;
  domains = k.domains ∙ sym t.domains_stay;
}

-- metadata alone was written
pub table_turned : (p : PagerState) (table' : MetaRow) (metas : PageId → Option Meta) → HasValues p.table table' metas →
    MetasTurn p (record p { table = table' }) metas
table_turned p table' metas now = record {
  frames_are = refl;
  rights_are = refl;
  metas_are = now.values_are;
  domains_stay = now.domains_stay;
  keys_stay = refl;
  reads_stay = refl;
}

pub kept_table : {p : PagerState} {homes : HomeTable} {table' : MetaRow} {metas : PageId → Option Meta} →
    IsWholeWithHomes p homes → HasValues p.table table' metas →
    ((k : ℕ) (o : PageId) → held_in p k ≡ Some o → meta_at p.table o ≢ None → metas o ≢ None) →
    IsWholeWithHomes (record p { table = table' }) homes
kept_table {p} {homes} {table'} {metas} k now keeps =
    kept_still p (record p { table = table' }) homes p.frames metas k (table_turned p table' metas now) refl keeps

-- a pager is whole after one frame turned
pub whole_turned : (p p' : PagerState) (f : ℕ) (h : FrameRight) (bytes : List ℕ) (metas : PageId → Option Meta) →
    IsWholePager p → Turns p p' (slice_set p.frames f bytes) (slice_set p.rights f h) metas → f < length p.frames →
    Names p'.table f h → ((o : PageId) → meta_at p.table o ≢ None → metas o ≢ None) →
    ((g : ℕ) (o : PageId) → g ≢ f → page_of h ≡ Some o → held_in p g ≢ Some o) → IsWholePager p'
whole_turned p p' f h bytes metas w t inside named keeps alone =
    let there : f < length p.rights = rw w.count inside in
    let held : (k : ℕ) (q : PageId) → held_in p' k ≡ Some q →
    ((k ≡ f) × (page_of h ≡ Some q)) ⊎ ((k ≢ f) × (held_in p k ≡ Some q)) =
    λ k q e. right_put p.rights f h k q there (rw t.rights_are at e) in
    record {
      count = rw (t.rights_are, t.frames_are, length-set, length-set) w.count;
      named = λ k within.
          elim (same_or_not k f) [
            | inl e ↦
                let right : right_at p' f ≡ h = rw t.rights_are (get_or-set_same p.rights f h Spent there) in
                let N : FrameRight → Type 0 = λ x. Names p'.table f x in
                subst (λ (x : ℕ). Names p'.table x (right_at p' x)) (sym e) (subst N (sym right) named)
            | inr n ↦
                let right : right_at p' k ≡ right_at p k = rw t.rights_are (get_or-set_other p.rights f k h Spent n) in
                let within' : k < length p.frames = rw (t.frames_are, length-set) at within in
                let N : FrameRight → Type 0 = λ x. Names p'.table k x in
                subst N (sym right)
                (names_stay p.table p'.table k (right_at p k) t.domains_stay
                (λ o here shown. rw t.metas_are (keeps o shown)) (w.named k within'))
          ];
      one_home = λ g k q at at'.
          elim (held g q at) [
            | inl e ↦ elim (held k q at') [
              | inl e' ↦ e.0 ∙ sym e'.0
              | inr n' ↦ absurd (alone k q n'.0 e.1 n'.1)
            ]
            | inr n ↦ elim (held k q at') [
              | inl e' ↦ absurd (alone g q n.0 e'.1 n.1)
              | inr n' ↦ w.one_home g k q n.1 n'.1
            ]
          ];
      few = rw (t.frames_are, length-set) w.few;
    }

-- homes stay right if the frame takes no other page
pub noted_still : (homes : HomeTable) (rights : List FrameRight) (f : ℕ) (h : FrameRight) → AreNoted homes rights →
    f < length rights → ((q : PageId) → page_of h ≡ Some q → page_of (get_or rights f Spent) ≡ Some q) →
    AreNoted homes (slice_set rights f h)
noted_still homes rights f h noted inside same k q held =
    elim (right_put rights f h k q inside held) [
      | inl e ↦ noted k q (subst (λ (x : ℕ). page_of (get_or rights x Spent) ≡ Some q) (sym e.0) (same q e.1))
      | inr n ↦ noted k q n.1
    ]

-- and if the frame is noted for the page that it takes
pub noted_new : (homes homes' : HomeTable) (rights : List FrameRight) (f : ℕ) (h : FrameRight) (q : PageId) →
    AreNoted homes rights → f < length rights →
    HasValues homes homes' (with_page (home_at homes) q (Some (frame_numbered f))) → page_of h ≡ Some q →
    ((k : ℕ) → page_of (get_or rights k Spent) ≢ Some q) → AreNoted homes' (slice_set rights f h)
noted_new homes homes' rights f h q noted inside now is nowhere k o held =
    elim (right_put rights f h k o inside held) [
      | inl e ↦
          let one : o ≡ q = (let e' = e.1 in cc) in
          rw (one, e.0) (now.values_are q ∙ with_page-same (home_at homes) q (Some (frame_numbered f)))
      | inr n ↦
          let P : PageId → Type 0 = λ x. page_of (get_or rights k Spent) ≡ Some x in
          let other : o ≢ q = λ e. nowhere k (subst P e n.1) in
          now.values_are o ∙ (with_page-other (home_at homes) q (Some (frame_numbered f)) o other ∙ noted k o n.1)
    ]

-- a frame that holds no page is outside
pub outside_right : (p : PagerState) → IsWholePager p → (f : ℕ) → f < length p.frames → held_in p f ≡ None →
    (r : Frame) × HasRight p f (Outside r)
outside_right p w f inside none = by_right (right_at p f) refl none (w.named f inside)
  where
    by_right : (h : FrameRight) → right_at p f ≡ h → page_of h ≡ None → Names p.table f h →
        (r : Frame) × HasRight p f (Outside r)
    by_right (Outside r) at none named = (r, record { whole = w; inside = inside; at = at })
    by_right (Clean r) at none named = absurd (let no : Some r.page ≡ None = none in cc)
    by_right (Changed r) at none named = absurd (let no : Some r.page ≡ None = none in cc)
    by_right Spent at none named = absurd named
