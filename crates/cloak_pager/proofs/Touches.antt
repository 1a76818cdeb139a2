-- What a touch does, over plain variables.
use Rattle.std.proofs.Common.{◌≡◌, ◌≢◌, ◌<◌, ℕ, Bool, true, false, List, [], ◌∷◌, Option, None, Some, length, get_or}
use Rattle.std.proofs.Common.{slice_set, refl, ap, sym, ◌∙◌, subst}
use Rattle.std.proofs.lemmas.List.{get_or-set_same, get_or-set_other, length-set, set-get_or}
use Rattle.sha2.specs.Sha256.{sha256}
use Rattle.cloak_base.specs.declared.names.Frame.{Frame}
use Rattle.cloak_base.specs.declared.names.PageId.{PageId}
use Rattle.cloak_base.specs.Pages.{with_page}
use Rattle.cloak_base.specs.Random.{Random, next_draw}
use Rattle.cloak_model.specs.Chain.{cbc}
use Rattle.cloak_model.specs.Sealing.{Sealing, Chained, sealed_by}
use Rattle.cloak_model.specs.Ledger.{Keys, key_of}
use Rattle.cloak_base.specs.Pages.{zero_page}
use Rattle.cloak_model.specs.Cloaking.{CloakedMemory, AfterSettling, settle, settle_if, settle_owed, owed_in}
use Rattle.cloak_model.specs.Cloaking.{with_shown_frame, with_owed, with_record, with_miss}
use Rattle.frame_store.specs.Rights.{Holding}
use Rattle.cloak_base.specs.declared.names.Meta.{Meta}
use Rattle.protect_meta.specs.Table.{meta_at}
use Rattle.cloak_pager.specs.State.{PagerState, IsWholePager, key_for, page_of, owed_under, right_at, bytes_in}
use Rattle.cloak_pager.specs.State.{held_in, owed_at}
use Rattle.cloak_pager.specs.Turns.{frame_numbered, ShowsNow, IsResealed, IsSealed, IsWiped, metas_with}
use Rattle.cloak_pager.specs.Turns.{TouchTurns, touched_by, left_by}
use Rattle.cloak_pager.specs.Relation.{StandsForMemory, FrameStands, PageStands, HoldsClean, vector_in}
use Rattle.cloak_pager.specs.Asking.{ToldCall, FollowsCallFrom, FollowsCall, after_touch, shown_by, wiped_with}
use Rattle.cloak_pager.specs.declared.frame_right.FrameRight.{FrameRight}
use Rattle.cloak_pager.specs.declared.frame_right.FrameRight.TheVariants.{Outside, Clean, Changed, Spent}
use Rattle.cloak_pager.specs.declared.touching.Touched.{Touched}
use Rattle.cloak_pager.specs.declared.touching.Touched.TheVariants.{Quiet, Resealed, Sealed, Wiped}
use Rattle.cloak_pager.proofs.Pages.{with_page-same, with_page-other}
use Rattle.cloak_pager.proofs.Keeping.{HasRight, whole_turned}
use Rattle.cloak_pager.proofs.Turned.{set_keeps}
use Rattle.cloak_pager.proofs.Stands.{stands_turned, owed_by_right, page_as, page_stays, vector_stays}
use Rattle.cloak_model.proofs.Settling.{settle_unowed}

-- no other frame holds the page that a frame holds
pub held_alone : (p : PagerState) → IsWholePager p → (f : ℕ) (q : PageId) → held_in p f ≡ Some q →
    (g : ℕ) (o : PageId) → g ≢ f → Some q ≡ Some o → held_in p g ≢ Some o
held_alone p w f q held g o n e at = n (w.one_home g f o at (held ∙ e))

-- what is owed stays if the frame was owed nothing
pub owed_nothing : (p : PagerState) (w : PageId → Bool) (m : CloakedMemory) → StandsForMemory p w m → (f : ℕ) →
    owed_at p f ≡ None → m.ledger.owed ≡ slice_set m.ledger.owed f None
owed_nothing p w m s f none =
    sym (subst (λ (x : Option PageId). slice_set m.ledger.owed f x ≡ m.ledger.owed) (owed_by_right p w m s f ∙ none)
    (set-get_or m.ledger.owed f None))

pub stands_resealed : (p p' : PagerState) (w : PageId → Bool) (m : CloakedMemory) (f : ℕ) (r : Holding) →
    StandsForMemory p w m → IsWholePager p' → f < length p.frames → right_at p f ≡ Clean r → IsResealed p p' f r.page →
    StandsForMemory p' w m
stands_resealed p p' w m f r s whole inside at turns =
    let q : PageId = r.page in
    let held : held_in p f ≡ Some q = ap page_of at in
    let clean : HoldsClean p (w q) m f q = subst (λ (h : FrameRight). FrameStands p w m f h) at (s.frames f inside) in
    let meta : Meta = turns.0 in
    let t = turns.2 in
    let bytes : List ℕ = cbc (key_for p q) meta.iv (bytes_in p f) in
    let shows : bytes ≡ get_or m.ram f [] = rw (← s.keys) (clean.sealed meta turns.1) in
    stands_turned p p' w w m m f (Outside (frame_numbered f)) bytes (Some q) s (record {
      whole = whole;
      frames = t.frames_are;
      rights = t.rights_are;
      keys = t.keys_stay;
      keys_same = refl;
      ram = refl;
      ram_elsewhere = λ g n. refl;
      owed = owed_nothing p w m s f (ap owed_under at);
      plain = λ o n. refl;
      recorded = λ o n. refl;
      vectors = λ o n. refl;
      metas = λ o n. t.metas_are o;
      lost = λ o n. refl;
      held = λ o e. sym held ∙ e;
      alone = held_alone p s.whole f q held;
      here = λ within. rw t.frames_are (get_or-set_same p.frames f bytes [] inside ∙ shows);
      page = λ o e.
          page_stays (w o) (w o) m m o (meta_at p.table o) (meta_at p'.table o) refl (t.metas_are o) refl refl refl
          (λ free. free) (s.pages o);
      vector = λ o e. vector_stays p p' w m m o s (t.metas_are o) refl;
      newest = λ o e kept. s.plain o kept;
      drained = s.drained;
    })

-- a wiped page has no draw, so if there is a draw the page is not wiped
pub kept_by_draw : (p : PagerState) (w : PageId → Bool) (m : CloakedMemory) → StandsForMemory p w m →
    (q : PageId) (d : List ℕ × Random) → next_draw m.ledger.stream ≡ Some d → w q ≡ false
kept_by_draw p w m s q d drawn = by_value (w q) (s.drained q)
  where
    by_value : (b : Bool) → (b ≡ true → next_draw m.ledger.stream ≡ None) → b ≡ false
    by_value true drained = absurd (let no : None ≡ Some d = sym (drained refl) ∙ drawn in cc)
    by_value false drained = refl

-- what is said of a page whose metadata is this
pub page_is : (p' : PagerState) (w' : PageId → Bool) (m' : CloakedMemory) (q : PageId) (t : Option Meta) →
    meta_at p'.table q ≡ t → PageStands (w' q) m' q t → (o : PageId) → Some q ≡ Some o →
    PageStands (w' o) m' o (meta_at p'.table o)
page_is p' w' m' q t at here o e =
    let same : q ≡ o = cc in
    let P : PageId → Type 0 = λ x. PageStands (w' x) m' x (meta_at p'.table x) in
    subst P same (let T : Option Meta → Type 0 = λ x. PageStands (w' q) m' q x in subst T (sym at) here)

-- and of its vector
pub vector_is : (p' : PagerState) (m' : CloakedMemory) (q : PageId) (t : Option Meta) → meta_at p'.table q ≡ t →
    m'.ledger.iv q ≡ vector_in t → (o : PageId) → Some q ≡ Some o → m'.ledger.iv o ≡ vector_in (meta_at p'.table o)
vector_is p' m' q t at here o e =
    let same : q ≡ o = cc in
    let P : PageId → Type 0 = λ x. m'.ledger.iv x ≡ vector_in (meta_at p'.table x) in
    subst P same (here ∙ ap vector_in (sym at))

-- another page than the one that was turned
pub other_page : (q o : PageId) → Some q ≢ Some o → o ≢ q
other_page q o n e = n (ap (λ (x : PageId). Some x) (sym e))

-- the memory after frame f, owed page q, was settled with this draw
abbrev pub sealed_memory : CloakedMemory → ℕ → PageId → List ℕ × Random → CloakedMemory
sealed_memory m f q d =
    let c = cbc (key_of m.ledger q) d.0 (m.plain q) in with_record q c d (with_owed f None (with_shown_frame f c m))

-- and with none
abbrev pub wiped_memory : CloakedMemory → ℕ → CloakedMemory
wiped_memory m f = with_miss (with_owed f None (with_shown_frame f zero_page m))

pub stands_sealed : (p p' : PagerState) (w : PageId → Bool) (m : CloakedMemory) (f : ℕ) (r : Holding)
    (d : List ℕ × Random) →
    StandsForMemory p w m → IsWholePager p' → f < length p.frames → right_at p f ≡ Changed r →
    next_draw m.ledger.stream ≡ Some d → IsSealed p p' f r.page d.0 → StandsForMemory p' w (sealed_memory m f r.page d)
stands_sealed p p' w m f r d s whole inside at drawn t =
    let q : PageId = r.page in
    let m' : CloakedMemory = sealed_memory m f q d in
    let held : held_in p f ≡ Some q = ap page_of at in
    let kept : w q ≡ false = kept_by_draw p w m s q d drawn in
    let stands : FrameRight → Type 0 = λ h. FrameStands p w m f h in
    let same : bytes_in p f ≡ m.plain q = subst stands at (s.frames f inside) kept in
    let c : List ℕ = cbc (key_for p q) d.0 (bytes_in p f) in
    let c' : List ℕ = cbc (key_of m.ledger q) d.0 (m.plain q) in
    let sealed : c ≡ c' = rw (same, s.keys) refl in
    let meta : Meta = record { iv = d.0; digest = sha256 c } in
    let meta_there : meta_at p'.table q ≡ Some meta = t.metas_are q ∙ with_page-same (meta_at p.table) q (Some meta) in
    stands_turned p p' w w m m' f (Outside (frame_numbered f)) c (Some q) s (record {
      whole = whole;
      frames = t.frames_are;
      rights = t.rights_are;
      keys = t.keys_stay;
      keys_same = refl;
      ram = length-set m.ram f c';
      ram_elsewhere = λ g n. get_or-set_other m.ram f g c' [] n;
      owed = refl;
      plain = λ o n. refl;
      recorded = λ o n. with_page-other m.ledger.recorded q (Some c') o (other_page q o n);
      vectors = λ o n. with_page-other m.ledger.iv q (Some d.0) o (other_page q o n);
      metas = λ o n. t.metas_are o ∙ with_page-other (meta_at p.table) q (Some meta) o (other_page q o n);
      lost = λ o n. refl;
      held = λ o e. sym held ∙ e;
      alone = held_alone p s.whole f q held;
      here = λ within.
          rw t.frames_are
          (get_or-set_same p.frames f c [] inside ∙ (sealed ∙ sym (get_or-set_same m.ram f c' [] (rw s.count inside))));
      page = page_is p' w m' q (Some meta) meta_there (record {
        bytes = c';
        is = with_page-same m.ledger.recorded q (Some c');
        digest = ap sha256 (sym sealed);
        sealed = λ free unowed. refl;
      });
      vector = vector_is p' m' q (Some meta) meta_there (with_page-same m.ledger.iv q (Some d.0));
      newest = λ o e free. s.plain o free;
      drained = λ o lost. absurd (let no : false ≡ true = sym (kept_by_draw p w m s o d drawn) ∙ lost in cc);
    })

pub stands_wiped : (p p' : PagerState) (w : PageId → Bool) (m : CloakedMemory) (f : ℕ) (r : Holding) →
    StandsForMemory p w m → IsWholePager p' → f < length p.frames → right_at p f ≡ Changed r →
    next_draw m.ledger.stream ≡ None → IsWiped p p' f → StandsForMemory p' (with_page w r.page true) (wiped_memory m f)
stands_wiped p p' w m f r s whole inside at none t =
    let q : PageId = r.page in
    let w' : PageId → Bool = with_page w q true in
    let m' : CloakedMemory = wiped_memory m f in
    let held : held_in p f ≡ Some q = ap page_of at in
    let lost : w' q ≡ true = with_page-same w q true in
    stands_turned p p' w w' m m' f (Outside (frame_numbered f)) zero_page (Some q) s (record {
      whole = whole;
      frames = t.frames_are;
      rights = t.rights_are;
      keys = t.keys_stay;
      keys_same = refl;
      ram = length-set m.ram f zero_page;
      ram_elsewhere = λ g n. get_or-set_other m.ram f g zero_page [] n;
      owed = refl;
      plain = λ o n. refl;
      recorded = λ o n. refl;
      vectors = λ o n. refl;
      metas = λ o n. t.metas_are o;
      lost = λ o n. with_page-other w q true o (other_page q o n);
      held = λ o e. sym held ∙ e;
      alone = held_alone p s.whole f q held;
      here = λ within.
          rw t.frames_are
          (get_or-set_same p.frames f zero_page [] inside
          ∙ sym (get_or-set_same m.ram f zero_page [] (rw s.count inside)));
      page =
          page_is p' w' m' q (meta_at p.table q) (t.metas_are q)
          (page_as (w q) (w' q) m m' q q (meta_at p.table q) refl refl
          (λ kept free. absurd (let no : true ≡ false = sym lost ∙ kept in cc)) (s.pages q));
      vector = λ o e. vector_stays p p' w m m' o s (t.metas_are o) refl;
      newest = λ o e free.
          absurd (let same : q ≡ o = cc in let no : true ≡ false = sym lost ∙ (ap w' same ∙ free) in cc);
      drained = λ o lost. none;
    })

-- Settling.

-- what a settling to this ciphertext comes to
abbrev settled_to : ℕ → PageId → List ℕ × Random → List ℕ → CloakedMemory → AfterSettling
settled_to f q d c m = record {
  memory = with_record q c d (with_owed f None (with_shown_frame f c m));
  ciphers = (f, c) ∷ [];
  missed = false;
}

-- the memory's seal is the one under which the pager seals
pub chained_in : (p : PagerState) (w : PageId → Bool) (m : CloakedMemory) → StandsForMemory p w m → m.ledger.keys.seal ≡ Chained
chained_in p w m s = ap (λ (k : Keys). k.seal) s.keys ∙ s.chained

pub settle_draw : (f : ℕ) (m : CloakedMemory) (q : PageId) (d : List ℕ × Random) → m.ledger.keys.seal ≡ Chained → owed_in m f ≡ Some q →
    next_draw m.ledger.stream ≡ Some d →
    settle f m ≡ record {
      memory = sealed_memory m f q d;
      ciphers = (f, cbc (key_of m.ledger q) d.0 (m.plain q)) ∷ [];
      missed = false;
    }
unfolding settle settle_if settle_owed
settle_draw f m q d chained e drawn =
    ap (λ (x : Option PageId). settle_if f x m) e ∙ (ap (λ (x : Option (List ℕ × Random)). settle_owed f q x m) drawn
    ∙ ap (λ (seal : Sealing). settled_to f q d (sealed_by seal (key_of m.ledger q) d.0 (m.plain q)) m) chained)

pub settle_miss : (f : ℕ) (m : CloakedMemory) (q : PageId) → owed_in m f ≡ Some q → next_draw m.ledger.stream ≡ None →
    settle f m ≡ record { memory = wiped_memory m f; ciphers = (f, zero_page) ∷ []; missed = true }
unfolding settle settle_if settle_owed
settle_miss f m q e none =
    ap (λ (x : Option PageId). settle_if f x m) e ∙ ap (λ (x : Option (List ℕ × Random)). settle_owed f q x m) none

-- what there is after a touch, by the settling
abbrev pub after_settling : AfterSettling → Option PageId → (PageId → Bool) → ToldCall (List (ℕ × List ℕ) × Bool)
after_settling s owed w =
    record { answer = (s.ciphers, s.missed); wiped = wiped_with s.missed owed w; memory = s.memory }

-- frame f, not changed, is settled already
pub settled_follows : (p' : PagerState) (w : PageId → Bool) (m : CloakedMemory) (f : ℕ) (left : Random) →
    StandsForMemory p' w m → owed_in m f ≡ None → m.ledger.stream ≡ left → FollowsCallFrom p' left ([], false) (after_touch f w m)
settled_follows p' w m f left s none e =
    let M : AfterSettling → Type 0 = λ x. FollowsCallFrom p' left ([], false) (after_settling x (owed_in m f) w) in
    subst M (sym (settle_unowed f m none)) (record { answer = refl; stands = s; drawn = e })

pub whole_outside : (p p' : PagerState) (f : ℕ) (bytes : List ℕ) (metas : PageId → Option Meta) → IsWholePager p →
    f < length p.frames → ShowsNow p p' f bytes metas → ((o : PageId) → meta_at p.table o ≢ None → metas o ≢ None) →
    IsWholePager p'
whole_outside p p' f bytes metas w inside t keeps =
    whole_turned p p' f (Outside (frame_numbered f)) bytes metas w t inside refl keeps
    (λ g o n e. absurd (let no : None ≡ Some o = e in cc))

pub whole_resealed : (p p' : PagerState) (f : ℕ) (r : Holding) → IsWholePager p → f < length p.frames →
    right_at p f ≡ Clean r → IsResealed p p' f r.page → IsWholePager p'
whole_resealed p p' f r w inside at turns =
    whole_outside p p' f (cbc (key_for p r.page) turns.0.iv (bytes_in p f)) (meta_at p.table) w inside turns.2
    (λ o n. n)

pub touch_follows : (p p' : PagerState) (f : ℕ) (stream left : Random) (result : Touched) → f < length p.frames →
    result ≡ touched_by (right_at p f) (next_draw stream) → left ≡ left_by (right_at p f) (next_draw stream) stream →
    TouchTurns (right_at p f) (next_draw stream) p p' f → FollowsCall p stream p' left (shown_by result f p') (after_touch f)
touch_follows p p' f stream left result inside cause drew turns w m s e =
    by_right (right_at p f) refl (next_draw stream) refl cause drew turns
  where
    Goal : Touched → Type 0
    Goal t = FollowsCallFrom p' left (shown_by t f p') (after_touch f w m)

    by_right : (h : FrameRight) → right_at p f ≡ h → (d : Option (List ℕ × Random)) → next_draw stream ≡ d →
        result ≡ touched_by h d → left ≡ left_by h d stream → TouchTurns h d p p' f → Goal result
    by_right (Outside r) at d drawn cause drew turns =
        let S : PagerState → Type 0 = λ x. StandsForMemory x w m in
        let none : owed_in m f ≡ None = owed_by_right p w m s f ∙ ap owed_under at in
        subst Goal (sym cause) (settled_follows p' w m f left (subst S (sym turns) s) none (e ∙ sym drew))
    by_right (Clean r) at d drawn cause drew turns =
        let whole : IsWholePager p' = whole_resealed p p' f r s.whole inside at turns in
        let none : owed_in m f ≡ None = owed_by_right p w m s f ∙ ap owed_under at in
        subst Goal (sym cause)
        (settled_follows p' w m f left (stands_resealed p p' w m f r s whole inside at turns) none (e ∙ sym drew))
    by_right (Changed r) at (Some d) drawn cause drew turns =
        let owes : owed_in m f ≡ Some r.page = owed_by_right p w m s f ∙ ap owed_under at in
        let there : next_draw m.ledger.stream ≡ Some d = rw e drawn in
        let c : List ℕ = cbc (key_for p r.page) d.0 (bytes_in p f) in
        let meta : Meta = record { iv = d.0; digest = sha256 c } in
        let whole : IsWholePager p' =
        whole_outside p p' f c (metas_with p r.page d.0 c) s.whole inside turns
        (set_keeps (meta_at p.table) r.page meta) in
        let stands : StandsForMemory p' w (sealed_memory m f r.page d) =
        stands_sealed p p' w m f r d s whole inside at there turns in
        let F : FrameRight → Type 0 = λ h. FrameStands p w m f h in
        let same : bytes_in p f ≡ m.plain r.page =
        subst F at (s.frames f inside) (kept_by_draw p w m s r.page d there) in
        let shown : bytes_in p' f ≡ cbc (key_of m.ledger r.page) d.0 (m.plain r.page) =
        rw turns.frames_are (get_or-set_same p.frames f c [] inside ∙ rw (same, s.keys) refl) in
        let M : AfterSettling → Type 0 = λ x. FollowsCallFrom p' left (shown_by Sealed f p') (after_settling x (owed_in m f) w) in
        subst Goal (sym cause) (subst M (sym (settle_draw f m r.page d (chained_in p w m s) owes there)) (record {
          answer = ap (λ (x : List ℕ). ((f, x) ∷ [], false)) shown;
          stands = stands;
          drawn = sym drew;
        }))
    by_right (Changed r) at None drawn cause drew turns =
        let owes : owed_in m f ≡ Some r.page = owed_by_right p w m s f ∙ ap owed_under at in
        let none : next_draw m.ledger.stream ≡ None = rw e drawn in
        let whole : IsWholePager p' =
        whole_outside p p' f zero_page (meta_at p.table) s.whole inside turns (λ o n. n) in
        let stands : StandsForMemory p' (with_page w r.page true) (wiped_memory m f) =
        stands_wiped p p' w m f r s whole inside at none turns in
        let shown : bytes_in p' f ≡ zero_page = rw turns.frames_are (get_or-set_same p.frames f zero_page [] inside) in
        let settled : AfterSettling =
        record { memory = wiped_memory m f; ciphers = (f, zero_page) ∷ []; missed = true } in
        let M : AfterSettling → Type 0 = λ x. FollowsCallFrom p' left (shown_by Wiped f p') (after_settling x (owed_in m f) w) in
        let O : Option PageId → Type 0 = λ x. FollowsCallFrom p' left (shown_by Wiped f p') (after_settling settled x w) in
        subst Goal (sym cause) (subst M (sym (settle_miss f m r.page owes none)) (subst O (sym owes) (record {
          answer = ap (λ (x : List ℕ). ((f, x) ∷ [], true)) shown;
          stands = stands;
          drawn = e ∙ sym drew;
        })))
    by_right Spent at d drawn cause drew turns = absurd turns

-- the same, by the right that the frame had and the draw that was there
pub touch_by : (p p' : PagerState) (f : ℕ) (stream left : Random) (result : Touched) (h : FrameRight)
    (d : Option (List ℕ × Random)) →
    HasRight p f h → next_draw stream ≡ d → result ≡ touched_by h d → left ≡ left_by h d stream →
    TouchTurns h d p p' f → FollowsCall p stream p' left (shown_by result f p') (after_touch f)
touch_by p p' f stream left result h d right drawn cause drew turns =
    let T : FrameRight → Option (List ℕ × Random) → Type 0 = λ h d. (result ≡ touched_by h d) × (left ≡ left_by h d stream)
    × TouchTurns h d p p' f in
    let by_draw : T h (next_draw stream) =
    subst (λ (x : Option (List ℕ × Random)). T h x) (sym drawn) (cause, drew, turns) in
    let by_right : T (right_at p f) (next_draw stream) =
    subst (λ (x : FrameRight). T x (next_draw stream)) (sym right.at) by_draw in
    touch_follows p p' f stream left result right.inside by_right.0 by_right.1 by_right.2

-- The arms of a touch.

-- what is said of the page that the frame held is said of the page of its right
pub of_page : {p : PagerState} {f : ℕ} {h : FrameRight} (q : PageId) (P : PageId → Type 0) → HasRight p f h →
    page_of h ≡ Some q → ((o : PageId) → held_in p f ≡ Some o → P o) → P q
of_page q P right page all = all q (ap page_of right.at ∙ page)

-- a frame that went outside
pub outside_now : (p p' : PagerState) (f : Frame) (h : FrameRight) (bytes : List ℕ) (metas : PageId → Option Meta) →
    HasRight p f.0 h → ShowsNow p p' f.0 bytes metas → right_at p' f.0 ≡ Outside f
outside_now p p' f h bytes metas right t =
    rw t.rights_are
    (get_or-set_same p.rights f.0 (Outside (frame_numbered f.0)) Spent (rw right.whole.count right.inside))

pub clean_outside : (p p' : PagerState) (f : Frame) (r : Holding) → HasRight p f.0 (Clean r) →
    IsResealed p p' f.0 r.page → right_at p' f.0 ≡ Outside f
clean_outside p p' f r right turns =
    outside_now p p' f (Clean r) (cbc (key_for p r.page) turns.0.iv (bytes_in p f.0)) (meta_at p.table) right turns.2

pub quiet_follows : (p : PagerState) (f : ℕ) (r : Frame) (stream : Random) → HasRight p f (Outside r) →
    FollowsCall p stream p stream ([], false) (after_touch f)
quiet_follows p f r stream right =
    touch_by p p f stream stream Quiet (Outside r) (next_draw stream) right refl refl refl refl

pub resealed_follows : (p p' : PagerState) (f : ℕ) (r : Holding) (stream : Random) → HasRight p f (Clean r) →
    IsResealed p p' f r.page → FollowsCall p stream p' stream ([], false) (after_touch f)
resealed_follows p p' f r stream right turns =
    touch_by p p' f stream stream Resealed (Clean r) (next_draw stream) right refl refl refl turns

pub seal_state : (p p' : PagerState) (f : ℕ) (r : Holding) (iv : List ℕ) (stream left : Random) →
    HasRight p f (Changed r) → next_draw stream ≡ Some (iv, left) → IsSealed p p' f r.page iv →
    TouchTurns (right_at p f) (next_draw stream) p p' f
seal_state p p' f r iv stream left right drawn turns =
    let T : FrameRight → Option (List ℕ × Random) → Type 0 = λ h d. TouchTurns h d p p' f in
    let by_draw : T (Changed r) (next_draw stream) =
    subst (λ (d : Option (List ℕ × Random)). T (Changed r) d) (sym drawn) turns in
    subst (λ (h : FrameRight). T h (next_draw stream)) (sym right.at) by_draw

pub sealed_follows : (p p' : PagerState) (f : ℕ) (r : Holding) (iv : List ℕ) (stream left : Random) →
    HasRight p f (Changed r) → next_draw stream ≡ Some (iv, left) → IsSealed p p' f r.page iv →
    FollowsCall p stream p' left ((f, bytes_in p' f) ∷ [], false) (after_touch f)
sealed_follows p p' f r iv stream left right drawn turns =
    touch_by p p' f stream left Sealed (Changed r) (Some (iv, left)) right drawn refl refl turns

pub wiped_follows : (p p' : PagerState) (f : ℕ) (r : Holding) (stream left : Random) → HasRight p f (Changed r) →
    next_draw stream ≡ None → left ≡ stream → IsWiped p p' f →
    FollowsCall p stream p' left ((f, bytes_in p' f) ∷ [], true) (after_touch f)
wiped_follows p p' f r stream left right none same turns =
    touch_by p p' f stream left Wiped (Changed r) None right none refl same turns
