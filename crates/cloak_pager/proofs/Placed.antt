-- What placing and restoring do, over plain variables.
use Rattle.std.proofs.Common.{◌≡◌, ◌<◌, ◌≤◌, ℕ, Bool, true, false, List, [], Option, None, Some, length}
use Rattle.std.proofs.Common.{slice_set, refl, ap, sym, ◌∙◌, subst, arith, is_some, unwrap_or}
use Rattle.std.proofs.lemmas.List.{get_or-set_same, get_or-set_other, length-set, set-get_or, set_past, get_or_past}
use Rattle.std.proofs.lemmas.List.{length-map}
use Rattle.sha2.specs.Sha256.{sha256}
use Rattle.aes_block.specs.Bytes.{IsBytes}
use Rattle.cloak_base.specs.declared.names.Frame.{Frame}
use Rattle.cloak_base.specs.declared.names.PageId.{PageId}
use Rattle.cloak_base.specs.Pages.{with_page}
use Rattle.cloak_base.specs.Random.{Random, next_draw}
use Rattle.cloak_model.specs.Chain.{cbc}
use Rattle.cloak_model.specs.Sealing.{Sealing, Chained, sealed_by}
use Rattle.cloak_model.specs.Ledger.{key_of}
use Rattle.cloak_model.specs.Cloaking.{CloakedMemory, with_shown_frame, with_record}
use Rattle.cloak_model.specs.PageMoves.{place, place_with, with_newest}
use Rattle.cloak_model.specs.Beginning.{with_content}
use Rattle.cloak_base.specs.declared.names.Meta.{Meta}
use Rattle.protect_meta.specs.Table.{meta_at}
use Rattle.cloak_pager.specs.State.{PagerState, IsWholePager, key_for, IsFresh, page_of, right_at, held_in}
use Rattle.cloak_pager.specs.Turns.{metas_with, IsPlaced, IsRestored}
use Rattle.cloak_pager.specs.Relation.{StandsForMemory, FrameStands}
use Rattle.cloak_pager.specs.Asking.{ToldCall, FollowsCallFrom, FollowsCall, after_place, StandsRestored}
use Rattle.cloak_pager.specs.declared.frame_right.FrameRight.{FrameRight}
use Rattle.cloak_pager.specs.declared.frame_right.FrameRight.TheVariants.{Outside, Spent}
use Rattle.cloak_pager.proofs.Pages.{with_page-same, with_page-other}
use Rattle.cloak_pager.proofs.Keeping.{HasRight, whole_still, outside_right}
use Rattle.cloak_pager.proofs.Turned.{set_keeps}
use Rattle.cloak_pager.proofs.Stands.{stands_turned, owed_by_right}
use Rattle.cloak_pager.proofs.Touches.{page_is, vector_is, other_page, kept_by_draw, chained_in}

-- Restoring.

pub restore_stands : (p p' : PagerState) (q : PageId) (t : Meta) → IsFresh p q → IsRestored p p' q t →
    StandsRestored p p' q t
restore_stands p p' q t fresh turns w m c s is_sealed is =
    let m' : CloakedMemory = with_content q (Some c) m in
    let vector : c.iv ≡ t.iv = ap (λ (x : Meta). x.iv) is in
    let plain : c.plain ≡ m'.plain q = sym (with_page-same m.plain q c.plain) in
    let meta_there : meta_at p'.table q ≡ Some t = turns.metas_are q ∙ with_page-same (meta_at p.table) q (Some t) in
    let past : ℕ = length p.frames in
    let end : length p.rights ≤ past = omega (arith, s.whole.count) in
    let spent : right_at p past ≡ Spent = get_or_past p.rights past Spent end in
    let beyond : length m.ledger.owed ≤ past = rw (s.owed, length-map) end in
    let whole : IsWholePager p' =
    whole_still p p' p.frames (with_page (meta_at p.table) q (Some t)) s.whole turns refl
    (λ k o here. set_keeps (meta_at p.table) q t o) in
    stands_turned p p' w w m m' past Spent [] (Some q) s (record {
      whole = whole;
      frames = turns.frames_are ∙ sym (set_past p.frames past [] (omega arith));
      rights = turns.rights_are ∙ sym (set_past p.rights past Spent end);
      keys = turns.keys_stay;
      keys_same = refl;
      ram = refl;
      ram_elsewhere = λ g n. refl;
      owed = sym (set_past m.ledger.owed past None beyond);
      plain = λ o n. with_page-other m.plain q c.plain o (other_page q o n);
      recorded = λ o n. with_page-other m.ledger.recorded q (Some c.cipher) o (other_page q o n);
      vectors = λ o n. with_page-other m.ledger.iv q (Some c.iv) o (other_page q o n);
      metas = λ o n. turns.metas_are o ∙ with_page-other (meta_at p.table) q (Some t) o (other_page q o n);
      lost = λ o n. refl;
      held = λ o e. absurd (let no : None ≡ Some o = sym (ap page_of spent) ∙ e in cc);
      alone = λ g o n e there. fresh.1 g (there ∙ sym e);
      here = λ within. absurd (let no : past < past = within in omega arith);
      page = page_is p' w m' q (Some t) meta_there (record {
        bytes = c.cipher;
        is = with_page-same m.ledger.recorded q (Some c.cipher);
        digest = ap (λ (x : Meta). x.digest) is;
        sealed = λ kept free. is_sealed.cipher ∙ λ i. cbc (key_of m.ledger q) (vector i) (plain i);
      });
      vector = vector_is p' m' q (Some t) meta_there (with_page-same m.ledger.iv q (Some c.iv) ∙ ap (λ (x : List ℕ). Some x) vector);
      newest = λ o e kept.
          let same : q ≡ o = cc in
          let B : PageId → Type 0 = λ x. IsBytes 4096 (with_page m.plain q c.plain x) in
          subst B same (rw with_page-same is_sealed.plain);
      drained = s.drained;
    })

-- Placing.

-- the memory after page q of these bytes was placed in frame f with this draw
abbrev pub placed_memory : CloakedMemory → PageId → ℕ → List ℕ → List ℕ × Random → CloakedMemory
placed_memory m q f bytes d =
    let c = cbc (key_of m.ledger q) d.0 bytes in with_record q c d (with_shown_frame f c (with_newest q bytes m))

pub stands_placed : (p p' : PagerState) (w : PageId → Bool) (m : CloakedMemory) (q : PageId) (f : ℕ) (r : Frame)
    (bytes : List ℕ) (d : List ℕ × Random) →
    StandsForMemory p w m → HasRight p f (Outside r) → IsFresh p q → IsBytes 4096 bytes →
    next_draw m.ledger.stream ≡ Some d → IsPlaced p p' q f bytes d.0 →
    StandsForMemory p' w (placed_memory m q f bytes d)
stands_placed p p' w m q f r bytes d s right fresh is_page drawn turns =
    let c : List ℕ = cbc (key_for p q) d.0 bytes in
    let c' : List ℕ = cbc (key_of m.ledger q) d.0 bytes in
    let m' : CloakedMemory = placed_memory m q f bytes d in
    let sealed : c ≡ c' = rw s.keys refl in
    let meta : Meta = record { iv = d.0; digest = sha256 c } in
    let whole : IsWholePager p' =
    whole_still p p' (slice_set p.frames f c) (metas_with p q d.0 c) s.whole turns (length-set p.frames f c)
    (λ k o here. set_keeps (meta_at p.table) q meta o) in
    let meta_there : meta_at p'.table q ≡ Some meta = turns.metas_are q ∙ with_page-same (meta_at p.table) q (Some meta) in
    let O : Option PageId → Type 0 = λ x. slice_set m.ledger.owed f x ≡ m.ledger.owed in
    let F : FrameRight → Type 0 = λ h. FrameStands p' w m' f h in
    stands_turned p p' w w m m' f (right_at p f) c (Some q) s (record {
      whole = whole;
      frames = turns.frames_are;
      rights = turns.rights_are ∙ sym (set-get_or p.rights f Spent);
      keys = turns.keys_stay;
      keys_same = refl;
      ram = length-set m.ram f c';
      ram_elsewhere = λ g n. get_or-set_other m.ram f g c' [] n;
      owed = sym (subst O (owed_by_right p w m s f) (set-get_or m.ledger.owed f None));
      plain = λ o n. with_page-other m.plain q bytes o (other_page q o n);
      recorded = λ o n. with_page-other m.ledger.recorded q (Some c') o (other_page q o n);
      vectors = λ o n. with_page-other m.ledger.iv q (Some d.0) o (other_page q o n);
      metas = λ o n. turns.metas_are o ∙ with_page-other (meta_at p.table) q (Some meta) o (other_page q o n);
      lost = λ o n. refl;
      held = λ o e. absurd (let no : None ≡ Some o = sym (ap page_of right.at) ∙ e in cc);
      alone = λ g o n e there. fresh.1 g (there ∙ sym e);
      here = λ within.
          subst F (sym right.at)
          (rw turns.frames_are
          (get_or-set_same p.frames f c [] right.inside
          ∙ (sealed ∙ sym (get_or-set_same m.ram f c' [] (rw s.count right.inside)))));
      page =
          page_is p' w m' q (Some meta) meta_there (record {
            bytes = c';
            is = with_page-same m.ledger.recorded q (Some c');
            digest = ap sha256 (sym sealed);
            sealed = λ kept free.
                ap (λ (x : List ℕ). cbc (key_of m.ledger q) d.0 x) (sym (with_page-same m.plain q bytes));
          });
      vector = vector_is p' m' q (Some meta) meta_there (with_page-same m.ledger.iv q (Some d.0));
      newest = λ o e kept.
          let same : q ≡ o = cc in
          let B : PageId → Type 0 = λ x. IsBytes 4096 (with_page m.plain q bytes x) in
          subst B same (rw with_page-same is_page);
      drained = λ o lost. absurd (let no : false ≡ true = sym (kept_by_draw p w m s o d drawn) ∙ lost in cc);
    })

-- what placing with this ciphertext comes to
abbrev placed_to : PageId → ℕ → List ℕ → List ℕ × Random → List ℕ → CloakedMemory → Option CloakedMemory
placed_to q f bytes d c m = Some (with_record q c d (with_shown_frame f c (with_newest q bytes m)))

pub place_draw : (q : PageId) (f : ℕ) (bytes : List ℕ) (m : CloakedMemory) (d : List ℕ × Random) →
    m.ledger.keys.seal ≡ Chained → next_draw m.ledger.stream ≡ Some d → place q f bytes m ≡ Some (placed_memory m q f bytes d)
unfolding place place_with
place_draw q f bytes m d chained drawn =
    ap (λ (x : Option (List ℕ × Random)). place_with q f bytes x m) drawn
    ∙ ap (λ (seal : Sealing). placed_to q f bytes d (sealed_by seal (key_of m.ledger q) d.0 bytes) m) chained

pub place_none : (q : PageId) (f : ℕ) (bytes : List ℕ) (m : CloakedMemory) → next_draw m.ledger.stream ≡ None →
    place q f bytes m ≡ None
unfolding place place_with
place_none q f bytes m none = ap (λ (x : Option (List ℕ × Random)). place_with q f bytes x m) none

-- what is told of placing, by what it came to
abbrev pub after_placing : Option CloakedMemory → (PageId → Bool) → CloakedMemory → ToldCall Bool
after_placing o w m = record { answer = is_some o; wiped = w; memory = unwrap_or o m }

pub placed_follows : (p p' : PagerState) (q : PageId) (f : ℕ) (bytes iv : List ℕ) (stream left : Random) →
    f < length p.frames → held_in p f ≡ None → IsFresh p q → IsBytes 4096 bytes → next_draw stream ≡ Some (iv, left) →
    IsPlaced p p' q f bytes iv → FollowsCall p stream p' left true (after_place q f bytes)
placed_follows p p' q f bytes iv stream left inside outside fresh is_page drawn turns w m s e =
    let right = outside_right p s.whole f inside outside in
    let there : next_draw m.ledger.stream ≡ Some (iv, left) = rw e drawn in
    let M : Option CloakedMemory → Type 0 = λ o. FollowsCallFrom p' left true (after_placing o w m) in
    subst M (sym (place_draw q f bytes m (iv, left) (chained_in p w m s) there)) (record {
      answer = refl;
      stands = stands_placed p p' w m q f right.0 bytes (iv, left) s right.1 fresh is_page there turns;
      drawn = refl;
    })

pub unplaced_follows : (p : PagerState) (q : PageId) (f : ℕ) (bytes : List ℕ) (stream left : Random) →
    next_draw stream ≡ None → left ≡ stream → FollowsCall p stream p left false (after_place q f bytes)
unplaced_follows p q f bytes stream left none same w m s e =
    let there : next_draw m.ledger.stream ≡ None = rw e none in
    let M : Option CloakedMemory → Type 0 = λ o. FollowsCallFrom p left false (after_placing o w m) in
    subst M (sym (place_none q f bytes m there)) (record { answer = refl; stands = s; drawn = e ∙ sym same })
