-- What a store does to the bytes of a frame, over plain variables.
use Rattle.std.proofs.Common.{◌≡◌, ◌<◌, ◌≤◌, ◌+◌, ◌%◌, ℕ, zero, suc, Bool, false, List, [], Option, None, Some}
use Rattle.std.proofs.Common.{length, get_or, slice_get, slice_set, take, refl, ap, sym, ◌∙◌, subst, inl, inr, arith}
use Rattle.std.specs.Prelude.{All}
use Rattle.std.specs.Int.{w32, to_le_bytes}
use Rattle.std.proofs.lemmas.Bool.{cases_lt}
use Rattle.std.proofs.lemmas.List.{get_or-set_same, get_or-set_other, get_or_past, length-set, set-get_or}
use Rattle.std.proofs.lemmas.List.{length-append, length-take, length-drop}
use Rattle.std.proofs.lemmas.List.Elements.{All-append, All-take, All-drop}
use Rattle.std.proofs.lemmas.Option.{get_or_from_slice_get}
use Rattle.aes_block.specs.Bytes.{IsBytes}
use Rattle.cloak_base.specs.declared.names.Frame.{Frame}
use Rattle.cloak_base.specs.declared.names.PageId.{PageId}
use Rattle.cloak_model.specs.Effect.{IsWidth}
use Rattle.cloak_model.specs.Memory.{value_in}
use Rattle.cloak_model.specs.Cloaking.{CloakedMemory, owed_in, with_shown_frame}
use Rattle.cloak_model.specs.PageMoves.{with_newest}
use Rattle.frame_store.specs.Rights.{Holding}
use Rattle.cloak_base.specs.declared.names.Meta.{Meta}
use Rattle.protect_meta.specs.Table.{meta_at}
use Rattle.cloak_pager.specs.State.{PagerState, IsWholePager, Names, page_of, owed_under, right_at}
use Rattle.cloak_pager.specs.State.{bytes_in, held_in, owed_at}
use Rattle.cloak_pager.specs.Turns.{HasBytes}
use Rattle.cloak_pager.specs.Relation.{StandsForMemory, FrameStands, PageStands}
use Rattle.cloak_pager.specs.Asking.{FollowsCallStill, PageWrite, with_write, after_write_plain, after_write_outside}
use Rattle.cloak_pager.specs.Asking.{after_fill_outside, ReadsNewest}
use Rattle.cloak_pager.specs.declared.frame_right.FrameRight.{FrameRight}
use Rattle.cloak_pager.specs.declared.frame_right.FrameRight.TheVariants.{Outside, Clean, Changed, Spent}
use Rattle.cloak_pager.proofs.Pages.{with_page-same, with_page-other}
use Rattle.cloak_pager.proofs.Keeping.{HasRight, named_as, right_seen, outside_right, whole_still}
use Rattle.cloak_pager.proofs.Stands.{stands_turned, owed_by_right, owed_held, page_as, vector_stays}

-- a frame that holds a page is one of the frames
pub held_within : (rights : List FrameRight) (f : ℕ) (q : PageId) → page_of (get_or rights f Spent) ≡ Some q →
    f < length rights
held_within rights f q e =
    elim (cases_lt f (length rights)) [
      | inl lt ↦ lt
      | inr ge ↦
          let past : get_or rights f Spent ≡ Spent = get_or_past rights f Spent ge in
          let none : page_of (get_or rights f Spent) ≡ None = ap page_of past in
          absurd (let both : None ≡ Some q = sym none ∙ e in cc)
    ]

-- a pager whose frames alone changed is as whole as before
pub whole_written : (p p' : PagerState) (f : ℕ) (bytes : List ℕ) → IsWholePager p → HasBytes p p' f bytes →
    IsWholePager p'
whole_written p p' f bytes w t =
    whole_still p p' (slice_set p.frames f bytes) (meta_at p.table) w t (length-set p.frames f bytes) (λ k o here n. n)

-- the bytes that a store leaves in the frame of a right
pub puts_bytes : (p now : PagerState) (f g : ℕ) (bytes bytes' : List ℕ) → p ≡ now → g ≡ f → bytes' ≡ bytes →
    HasBytes now (record p { frames = slice_set p.frames g bytes' }) f bytes
puts_bytes p now f g bytes bytes' is at same =
    let P : PagerState → Type 0 = λ x. HasBytes x (record p { frames = slice_set p.frames g bytes' }) f bytes in
    subst P is (record {
      frames_are = rw (at, same) refl;
      rights_are = refl;
      metas_are = λ o. refl;
      domains_stay = refl;
      keys_stay = refl;
      reads_stay = refl;
    })

-- Outside bytes.

pub stands_filled : (p p' : PagerState) (f : ℕ) (bytes : List ℕ) → IsWholePager p → HasBytes p p' f bytes →
    f < length p.frames → held_in p f ≡ None → (w : PageId → Bool) (m : CloakedMemory) → StandsForMemory p w m →
    StandsForMemory p' w (with_shown_frame f bytes m)
stands_filled p p' f bytes whole t inside none w m s =
    let out = outside_right p whole f inside none in
    let in_ram : f < length m.ram = rw s.count inside in
    let owes : owed_in m f ≡ None = owed_by_right p w m s f ∙ ap owed_under out.1.at in
    let R : FrameRight → Type 0 = λ h. slice_set p.rights f h ≡ p.rights in
    let O : Option PageId → Type 0 = λ o. slice_set m.ledger.owed f o ≡ m.ledger.owed in
    stands_turned p p' w w m (with_shown_frame f bytes m) f (Outside out.0) bytes None s (record {
      whole = whole_written p p' f bytes whole t;
      frames = t.frames_are;
      rights = t.rights_are ∙ sym (subst R out.1.at (set-get_or p.rights f Spent));
      keys = t.keys_stay;
      keys_same = refl;
      ram = length-set m.ram f bytes;
      ram_elsewhere = λ g n. get_or-set_other m.ram f g bytes [] n;
      owed = sym (subst O owes (set-get_or m.ledger.owed f None));
      plain = λ o n. refl;
      recorded = λ o n. refl;
      vectors = λ o n. refl;
      metas = λ o n. t.metas_are o;
      lost = λ o n. refl;
      held = λ o e. absurd (let both : None ≡ Some o = sym none ∙ e in cc);
      alone = λ g o n e. absurd (cc);
      here = λ within.
          rw t.frames_are (get_or-set_same p.frames f bytes [] inside ∙ sym (get_or-set_same m.ram f bytes [] in_ram));
      page = λ o e. absurd (cc);
      vector = λ o e. absurd (cc);
      newest = λ o e kept. absurd (cc);
      drained = s.drained;
    })

pub follows_fill : (p p' : PagerState) (f : ℕ) (bytes : List ℕ) → IsWholePager p → HasBytes p p' f bytes →
    f < length p.frames → held_in p f ≡ None → FollowsCallStill {A = Unit {0}} p p' tt (after_fill_outside f bytes)
follows_fill p p' f bytes whole t inside none w m s =
    record { answer = refl; stands = stands_filled p p' f bytes whole t inside none w m s; drawn = refl }

-- the bytes of an outside frame are those that the kernel sees
pub outside_seen : (p : PagerState) (f : ℕ) → f < length p.frames → held_in p f ≡ None →
    (w : PageId → Bool) (m : CloakedMemory) → StandsForMemory p w m → bytes_in p f ≡ get_or m.ram f []
outside_seen p f inside none w m s =
    let out = outside_right p s.whole f inside none in
    let F : FrameRight → Type 0 = λ h. FrameStands p w m f h in
    subst F out.1.at (s.frames f inside)

pub follows_write : (p p' : PagerState) (f : ℕ) (x : PageWrite) → IsWholePager p →
    HasBytes p p' f (with_write x (bytes_in p f)) → f < length p.frames → held_in p f ≡ None →
    FollowsCallStill {A = Unit {0}} p p' tt (after_write_outside f x)
follows_write p p' f x whole t inside none w m s =
    let S : List ℕ → Type 0 = λ bytes. StandsForMemory p' w (with_shown_frame f (with_write x bytes) m) in
    record {
      answer = refl;
      stands =
          subst S (outside_seen p f inside none w m s)
          (stands_filled p p' f (with_write x (bytes_in p f)) whole t inside none w m s);
      drawn = refl;
    }

-- what the body of a store sees: the bytes went to the frame of the right that stood at the number
pub put_outside : (p now : PagerState) (f : ℕ) (seen : FrameRight) (r : Frame) (old bytes bytes' : List ℕ) → p ≡ now →
    IsWholePager p → f < length now.frames → seen ≡ get_or p.rights f seen → seen ≡ Outside r →
    slice_get p.frames r.0 ≡ Some old → (bytes_in now f ≡ old → bytes' ≡ bytes) →
    HasBytes now (record p { frames = slice_set p.frames r.0 bytes' }) f bytes
put_outside p now f seen r old bytes bytes' view w within e is there same =
    let at : r.0 ≡ f = named_as (right_seen f (Outside r) view w within e (sym is)) in
    let S : ℕ → Type 0 = λ k. slice_get p.frames k ≡ Some old in
    let here : bytes_in p f ≡ old = get_or_from_slice_get p.frames f old [] (subst S at there) in
    puts_bytes p now f r.0 bytes bytes' view at (same (ap (λ (x : PagerState). bytes_in x f) (sym view) ∙ here))

pub whole_now : (p now : PagerState) → p ≡ now → IsWholePager p → IsWholePager now
whole_now p now view w = subst IsWholePager view w

-- Plain bytes.

-- a right by which a frame is owed a page
pub changed_if : (h : FrameRight) (q : PageId) → owed_under h ≡ Some q → (r : Holding) × (h ≡ Changed r) × (r.page ≡ q)
changed_if (Outside r) q e = absurd (cc)
changed_if (Clean r) q e = absurd (cc)
changed_if (Changed r) q e = (r, refl, (cc))
changed_if Spent q e = absurd (cc)

-- what is known of a frame that is owed a page
pub record Owing (p : PagerState) (q : PageId) (f : ℕ) : Type 0 where
  pub right : Holding
  pub has : HasRight p f (Changed right)
  pub page : right.page ≡ q

pub owing_here : (p : PagerState) → IsWholePager p → (q : PageId) (f : ℕ) → owed_at p f ≡ Some q → Owing p q f
owing_here p w q f owes =
    let c = changed_if (right_at p f) q owes in
    let within : f < length p.rights = held_within p.rights f q (owed_held (right_at p f) q owes) in
    record { right = c.0; has = record { whole = w; inside = rw (← w.count) within; at = c.1 }; page = c.2 }

-- the same, by what the pager's callers know
pub owing : (p now : PagerState) (q : PageId) (f : ℕ) → p ≡ now → IsWholePager p → owed_at now f ≡ Some q → Owing p q f
owing p now q f view w owes = owing_here p w q f (rw (← view) at owes)

-- the right that is seen at a place
pub seen_right : (p : PagerState) (f : ℕ) (seen : FrameRight) → IsWholePager p → f < length p.frames →
    seen ≡ get_or p.rights f seen → HasRight p f seen
seen_right p f seen w inside e = right_seen f seen refl w inside e refl

-- and what is true of the right that is seen there
pub owing_seen : {p : PagerState} {q : PageId} {f : ℕ} (seen : FrameRight) → Owing p q f → seen ≡ get_or p.rights f seen →
    (r : Holding) × (seen ≡ Changed r) × (r.frame.0 ≡ f)
owing_seen {p} {q} {f} seen o e =
    let there : right_at p f ≡ seen = (seen_right p f seen o.has.whole o.has.inside e).at in
    (o.right, sym there ∙ o.has.at, (named_as o.has).0)

-- the frame of the changed right that is seen there
pub frame_is : {p : PagerState} {q : PageId} {f : ℕ} (seen : FrameRight) (r : Holding) → Owing p q f →
    seen ≡ get_or p.rights f seen → seen ≡ Changed r → r.frame.0 ≡ f
frame_is seen r o e is =
    let s = owing_seen seen o e in
    let one : r ≡ s.0 = (let s' = s.1 in cc) in
    ap (λ (x : Holding). x.frame.0) one ∙ s.2

pub put_plain : (p now : PagerState) (q : PageId) (f : ℕ) (seen : FrameRight) (r : Holding) (old bytes' : List ℕ)
    (change : List ℕ → List ℕ) →
    p ≡ now → IsWholePager p → seen ≡ get_or p.rights f seen → seen ≡ Changed r →
    slice_get p.frames r.frame.0 ≡ Some old → bytes' ≡ change old → owed_at now f ≡ Some q →
    HasBytes now (record p { frames = slice_set p.frames r.frame.0 bytes' }) f (change (bytes_in now f))
put_plain p now q f seen r old bytes' change view w e is there same owes =
    let at_f : r.frame.0 ≡ f = frame_is seen r (owing p now q f view w owes) e is in
    let S : ℕ → Type 0 = λ k. slice_get p.frames k ≡ Some old in
    let here : bytes_in p f ≡ old = get_or_from_slice_get p.frames f old [] (subst S at_f there) in
    let now_here : bytes_in now f ≡ old = ap (λ (x : PagerState). bytes_in x f) (sym view) ∙ here in
    puts_bytes p now f r.frame.0 (change (bytes_in now f)) bytes' view at_f (same ∙ ap change (sym now_here))

four_bytes : (v : ℕ) → All {X = ℕ} (λ x. x < 256) (to_le_bytes w32 v)
four_bytes v zero d h = omega arith
four_bytes v (suc zero) d h = omega arith
four_bytes v (suc (suc zero)) d h = omega arith
four_bytes v (suc (suc (suc zero))) d h = omega arith
four_bytes v (suc (suc (suc (suc k)))) d h = absurd (omega arith)

-- there is room for the bytes of a write in a page
pub record FitsPage (x : PageWrite) : Type 0 where
  pub within : x.at + x.width ≤ 4096
  pub narrow : x.width ≤ 4

-- a page with a value stored in it
IsBytes-with_write : (page : List ℕ) (x : PageWrite) → IsBytes 4096 page → FitsPage x → IsBytes 4096 (with_write x page)
IsBytes-with_write page x b fits =
    let four : length (to_le_bytes w32 x.value) ≡ 4 = refl in
    let long = b.long in
    let P : ℕ → Type 0 = λ n. n < 256 in
    let value : All P (take x.width (to_le_bytes w32 x.value)) =
    All-take P x.width (to_le_bytes w32 x.value) (four_bytes x.value) in
    record {
      long = simp (length-append, length-take, length-drop) (omega (arith, four));
      bytes =
          All-append P (take x.at page) _ (All-take P x.at page b.bytes)
          (All-append P (take x.width (to_le_bytes w32 x.value)) _ value (All-drop P (x.at + x.width) page b.bytes));
    }

-- a place that is a multiple of a width leaves room for it
fits_page : (x : PageWrite) → IsWidth x.width → x.at % x.width ≡ 0 → x.at < 4096 → FitsPage x
fits_page x w even low =
    elim w [
      | inl one ↦ record { within = omega arith; narrow = omega arith }
      | inr more ↦ elim more [
        | inl two ↦
            let e : x.at % 2 ≡ 0 = subst (λ (n : ℕ). x.at % n ≡ 0) two even in
            record { within = omega arith; narrow = omega arith }
        | inr four ↦
            let e : x.at % 4 ≡ 0 = subst (λ (n : ℕ). x.at % n ≡ 0) four even in
            record { within = omega arith; narrow = omega arith }
      ]
    ]

-- the newest bytes of a page that a frame holds are in the frame
pub held_newest : (p : PagerState) (w : PageId → Bool) (m : CloakedMemory) → StandsForMemory p w m →
    (f : ℕ) (q : PageId) → held_in p f ≡ Some q → w q ≡ false → bytes_in p f ≡ m.plain q
held_newest p w m s f q held kept =
    newest (right_at p f) (s.frames f (rw (← s.whole.count) (held_within p.rights f q held))) held
  where
    newest : (h : FrameRight) → FrameStands p w m f h → page_of h ≡ Some q → bytes_in p f ≡ m.plain q
    newest (Outside r) t e = absurd (cc)
    newest (Clean r) t e = let one : r.page ≡ q = cc in t.newest (ap w one ∙ kept) ∙ ap m.plain one
    newest (Changed r) t e = let one : r.page ≡ q = cc in t (ap w one ∙ kept) ∙ ap m.plain one
    newest Spent t e = absurd t

pub stands_written : (p p' : PagerState) (q : PageId) (f : ℕ) (x : PageWrite) → IsWholePager p →
    HasBytes p p' f (with_write x (bytes_in p f)) → owed_at p f ≡ Some q → FitsPage x →
    (w : PageId → Bool) (m : CloakedMemory) → StandsForMemory p w m →
    StandsForMemory p' w (with_newest q (with_write x (m.plain q)) m)
stands_written p p' q f x whole t owes fits w m s =
    let o = owing_here p whole q f owes in
    let held : held_in p f ≡ Some q = owed_held (right_at p f) q owes in
    let bytes : List ℕ = with_write x (bytes_in p f) in
    let new : List ℕ = with_write x (m.plain q) in
    let m' : CloakedMemory = with_newest q new m in
    let owes' : owed_in m f ≡ Some q = owed_by_right p w m s f ∙ owes in
    let new_here : m'.plain q ≡ new = with_page-same m.plain q new in
    let inside : f < length p.frames = o.has.inside in
    let R : FrameRight → Type 0 = λ h. slice_set p.rights f h ≡ p.rights in
    let O : Option PageId → Type 0 = λ x. slice_set m.ledger.owed f x ≡ m.ledger.owed in
    stands_turned p p' w w m m' f (Changed o.right) bytes (Some q) s (record {
      whole = whole_written p p' f bytes whole t;
      frames = t.frames_are;
      rights = t.rights_are ∙ sym (subst R o.has.at (set-get_or p.rights f Spent));
      keys = t.keys_stay;
      keys_same = refl;
      ram = refl;
      ram_elsewhere = λ g n. refl;
      owed = sym (subst O (owed_by_right p w m s f ∙ ap owed_under o.has.at) (set-get_or m.ledger.owed f None));
      plain = λ o n. with_page-other m.plain q new o (λ e. n (ap (λ (x : PageId). Some x) (sym e)));
      recorded = λ o n. refl;
      vectors = λ o n. refl;
      metas = λ o n. t.metas_are o;
      lost = λ o n. refl;
      held = λ o e. sym held ∙ e;
      alone = λ g o n e at. n (whole.one_home g f o at (held ∙ e));
      here = λ inside kept.
          let lost : w q ≡ false = ap w (sym o.page) ∙ kept in
          let is : bytes_in p' f ≡ bytes = rw t.frames_are (get_or-set_same p.frames f bytes [] inside) in
          let new_is : m'.plain o.right.page ≡ new = subst (λ (x : PageId). m'.plain x ≡ new) (sym o.page) new_here in
          is ∙ (ap (with_write x) (held_newest p w m s f q held lost) ∙ sym new_is);
      page = λ o e.
          let one : q ≡ o = cc in
          let P : Option Meta → Type 0 = λ x. PageStands (w o) m' o x in
          let owing : owed_in m' f ≡ Some o = owes' ∙ e in
          subst P (sym (t.metas_are o))
          (page_as (w o) (w o) m m' o o (meta_at p.table o) refl refl (λ kept free. absurd (free f owing)) (s.pages o));
      vector = λ o e. vector_stays p p' w m m' o s (t.metas_are o) refl;
      newest = λ o e kept.
          let one : q ≡ o = cc in
          let is : m'.plain o ≡ new = subst (λ (x : PageId). m'.plain x ≡ new) one new_here in
          rw is (IsBytes-with_write (m.plain q) x (s.plain q (ap w one ∙ kept)) fits);
      drained = s.drained;
    })

pub follows_plain : (p p' : PagerState) (q : PageId) (f : ℕ) (x : PageWrite) → IsWholePager p →
    HasBytes p p' f (with_write x (bytes_in p f)) → owed_at p f ≡ Some q → IsWidth x.width → x.at % x.width ≡ 0 →
    x.at < 4096 → FollowsCallStill {A = Unit {0}} p p' tt (after_write_plain q x)
follows_plain p p' q f x whole t owes wide even low w m s = record {
  answer = refl;
  stands = stands_written p p' q f x whole t owes (fits_page x wide even low) w m s;
  drawn = refl;
}

-- Reading.

-- a frame that holds a page is one of the frames, by what the pager's callers know
pub reading : (p now : PagerState) (q : PageId) (f : ℕ) → p ≡ now → IsWholePager p → held_in now f ≡ Some q →
    f < length p.frames
reading p now q f view w held =
    let at : held_in p f ≡ Some q = rw (← view) at held in
    rw (← w.count) (held_within p.rights f q at)

-- the frame of a right, by its kind
abbrev pub number_of : FrameRight → ℕ
number_of (Outside r) = r.0
number_of (Clean r) = r.frame.0
number_of (Changed r) = r.frame.0
number_of Spent = 0

number_named : (p : PagerState) (f : ℕ) (h : FrameRight) → Names p.table f h → number_of h ≡ f
number_named p f (Outside r) n = n
number_named p f (Clean r) n = n.0
number_named p f (Changed r) n = n.0
number_named p f Spent n = absurd n

-- the bytes that the body of a read sees are those of the frame that holds the page
pub read_value : (p now : PagerState) (q : PageId) (f : ℕ) (seen h : FrameRight) (k : ℕ) (bytes : List ℕ) (read : List ℕ → ℕ)
    (value : ℕ) →
    p ≡ now → IsWholePager p → seen ≡ get_or p.rights f seen → seen ≡ h → number_of h ≡ k →
    slice_get p.frames k ≡ Some bytes → value ≡ read bytes → held_in now f ≡ Some q → value ≡ read (bytes_in now f)
read_value p now q f seen h k bytes read value view w e is number there value_is held =
    let inside = reading p now q f view w held in
    let right : HasRight p f h = subst (λ (x : FrameRight). HasRight p f x) is (seen_right p f seen w inside e) in
    let at_f : k ≡ f = sym number ∙ number_named p f h (named_as right) in
    let S : ℕ → Type 0 = λ x. slice_get p.frames x ≡ Some bytes in
    let here : bytes_in p f ≡ bytes = get_or_from_slice_get p.frames f bytes [] (subst S at_f there) in
    value_is ∙ ap read (sym (ap (λ (x : PagerState). bytes_in x f) (sym view) ∙ here))

pub read_newest : (p : PagerState) (q : PageId) (f at width value : ℕ) → value ≡ value_in (bytes_in p f) at width →
    held_in p f ≡ Some q → ReadsNewest p q at width value
read_newest p q f at width value reads held w m s kept =
    reads ∙ ap (λ (x : List ℕ). value_in x at width) (held_newest p w m s f q held kept)
