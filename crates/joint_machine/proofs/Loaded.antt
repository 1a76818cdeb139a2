-- RAM as a run begins, over plain variables.
use Rattle.std.proofs.Common.{inl, inr, ◌≡◌, ◌<◌, ◌≤◌, ◌+◌, ◌-◌, ◌*◌, ◌/◌, ◌%◌, ℕ, false, List, [], ◌∷◌, ◌++◌, length, drop, take, reverse, suc, slice_index_or, slice_set, All, refl, ap, sym, ◌∙◌, subst, arith, add-one, None, Some, Option, map, replicate}
use Rattle.std.proofs.lemmas.List.{get_or_past, set_split, length-set, length-replicate, length-take, length-drop, length-reverse, at_drop_more, take-append-drop, reverse-append, reverse-reverse}
use Rattle.std.proofs.lemmas.Bool.{cases_lt}
use Rattle.std.proofs.lemmas.List.Elements.{All-nil, All-set, All-replicate}
use Rattle.cloak_base.specs.Pages.{zero_page}
use Rattle.cloak_base.specs.Random.{Random}
use Rattle.cloak_base.specs.declared.names.PageId.{PageId}
use Rattle.cloak_model.specs.declared.image.Segment.{Segment}
use Rattle.cloak_model.specs.declared.image.KernelImage.{KernelImage}
use Rattle.cloak_model.specs.Bundle.{IsSegmentIn}
use Rattle.cloak_model.specs.Cloaking.{CloakedMemory}
use Rattle.cloak_base.specs.Constants.{frame_of, place_of}
use Rattle.cloak_model.specs.Ledger.{Keys}
use Rattle.cloak_model.specs.Memory.{with_byte, with_bytes, with_value_in, zero_ram}
use Rattle.cloak_model.specs.Opening.{with_segments, started_kernel, started_ledger, started_memory}
use Rattle.cloak_base.specs.declared.names.Meta.{Meta}
use Rattle.protect_meta.specs.Table.{meta_at}
use Rattle.cloak_pager.specs.State.{PagerState, IsWholePager, page_of, owed_under, held_in}
use Rattle.cloak_pager.specs.Turns.{IsNewPager, HasBytes}
use Rattle.cloak_pager.specs.Relation.{StandsForMemory, FrameStands, PageStands, vector_in}
use Rattle.cloak_pager.specs.Asking.{none_wiped, StandsBlank}
use Rattle.cloak_pager.specs.declared.frame_right.FrameRight.{FrameRight}
use Rattle.cloak_pager.specs.declared.frame_right.FrameRight.TheVariants.{Spent}
use Rattle.shadow_fold.specs.Keeping.{Agrees}
use Rattle.shadow_fold.specs.Table.{Table, empty_table}
use Rattle.shadow_law.specs.Agreeing.{present}
use Rattle.cloaked_side.specs.Holding.{Holds}
use Rattle.joint_machine.specs.Starting.{ArePages, HasFrames, IsReady}
use Rattle.joint_machine.proofs.Backwards.{back_next}
use Rattle.cloak_model.proofs.Opening.{length-with_bytes, length-with_segments}

-- One byte.

one_byte : (page : List ℕ) (at b : ℕ) → at < length page → b < 256 → with_value_in page at 1 b ≡ slice_set page at b
one_byte page at b inside low =
    let byte : b % 256 ≡ b = omega (arith, low) in
    ap (λ (x : ℕ). take at page ++ (x ∷ drop (at + 1) page)) byte
    ∙ (ap (λ (n : ℕ). take at page ++ (b ∷ drop n page)) (add-one at) ∙ sym (set_split page at b inside))

-- a byte that is stored at a place of RAM
stored_byte : (frames : List (List ℕ)) (pa place b : ℕ) → pa - 0x80000000 ≡ place → ArePages frames →
    place / 4096 < length frames → b < 256 →
    slice_set frames (place / 4096) (with_value_in (slice_index_or frames (place / 4096) []) (place % 4096) 1 b)
    ≡ with_byte frames pa b
stored_byte frames pa place b is pages inside low =
    let long : length (slice_index_or frames (place / 4096) []) ≡ 4096 = pages (place / 4096) [] inside in
    let within : place % 4096 < length (slice_index_or frames (place / 4096) []) = omega (arith, long) in
    ap (λ (page : List ℕ). slice_set frames (place / 4096) page)
    (one_byte (slice_index_or frames (place / 4096) []) (place % 4096) b within low)
    ∙ ap (λ (n : ℕ). slice_set frames (n / 4096) (slice_set (slice_index_or frames (n / 4096) []) (n % 4096) b)) (sym is)

pages_with_byte : (frames : List (List ℕ)) (pa b : ℕ) → ArePages frames → frame_of pa < length frames →
    ArePages (with_byte frames pa b)
pages_with_byte frames pa b pages inside =
    All-set (λ (page : List ℕ). length page ≡ 4096) frames (frame_of pa) _
    (length-set (slice_index_or frames (frame_of pa) []) (place_of pa) b ∙ pages (frame_of pa) [] inside) pages

-- Pagers whose frames alone changed.

frames_same : (p : PagerState) → HasFrames p p p.frames
frames_same p = record {
  frames_are = refl;
  rights_are = refl;
  metas_are = λ o. refl;
  domains_stay = refl;
  keys_stay = refl;
  reads_stay = refl;
}

frames_then : (a b c : PagerState) (frames frames' : List (List ℕ)) → HasFrames a b frames → HasFrames b c frames' →
    HasFrames a c frames'
frames_then a b c frames frames' first second = record {
  frames_are = second.frames_are;
  rights_are = second.rights_are ∙ first.rights_are;
  metas_are = λ o. second.metas_are o ∙ first.metas_are o;
  domains_stay = second.domains_stay ∙ first.domains_stay;
  keys_stay = second.keys_stay ∙ first.keys_stay;
  reads_stay = second.reads_stay ∙ first.reads_stay;
}

frames_are : (a b : PagerState) (frames frames' : List (List ℕ)) → frames ≡ frames' → HasFrames a b frames →
    HasFrames a b frames'
frames_are a b frames frames' same has = subst (λ (x : List (List ℕ)). HasFrames a b x) same has

-- Bytes one after another.

-- of these bytes the first i are stored: once what is left is stored after them, all are
pub record StoresFrom (old p : PagerState) (address i : ℕ) (bytes : List ℕ) : Type 0 where
  pub stays : HasFrames old p p.frames
  pub count : length p.frames ≡ length old.frames
  pub pages : ArePages p.frames
  pub stored : with_bytes p.frames (address + i) (drop i bytes) ≡ with_bytes old.frames address bytes

pub stores_more : (old p p' : PagerState) (address i place b : ℕ) (bytes : List ℕ) → 0x80000000 ≤ address →
    StoresFrom old p address i bytes → place ≡ address - 0x80000000 + i → i < length bytes →
    address + length bytes ≤ 0x80000000 + 4096 * length old.frames →
    b ≡ slice_index_or bytes i b → b < 256 →
    HasBytes p p' (place / 4096)
    (with_value_in (slice_index_or p.frames (place / 4096) []) (place % 4096) 1 b) →
    StoresFrom old p' address (i + 1) bytes
stores_more old p p' address i place b bytes high so_far is more fits read low has =
    let at : address + i - 0x80000000 ≡ place = omega (arith, high, is) in
    let room : place / 4096 < length p.frames =
    (let count = so_far.count in omega (arith, high, is, more, fits, count)) in
    let inside : frame_of (address + i) < length p.frames = rw at room in
    let new : p'.frames ≡ with_byte p.frames (address + i) b =
    has.frames_are ∙ stored_byte p.frames (address + i) place b at so_far.pages room low in
    let here : with_bytes p.frames (address + i) (drop i bytes) ≡ with_bytes (with_byte p.frames (address + i) b) (address + i + 1) (drop (i + 1) bytes) =
    at_drop_more (λ (rest : List ℕ). with_bytes p.frames (address + i) rest) bytes i b more
    ∙ ap (λ (x : ℕ). with_bytes (with_byte p.frames (address + i) x) (address + i + 1) (drop (i + 1) bytes)) (sym read) in
    record {
      stays = frames_are old p' _ p'.frames (sym has.frames_are) (frames_then old p p' p.frames _ so_far.stays has);
      count = ap (λ (x : List (List ℕ)). length x) new ∙ (length-set p.frames _ _ ∙ so_far.count);
      pages = subst ArePages (sym new) (pages_with_byte p.frames (address + i) b so_far.pages inside);
      stored =
          ap (λ (x : List (List ℕ)). with_bytes x (address + (i + 1)) (drop (i + 1) bytes)) new
          ∙ (ap (λ (n : ℕ). with_bytes (with_byte p.frames (address + i) b) n (drop (i + 1) bytes))
          (let e : address + (i + 1) ≡ address + i + 1 = omega arith in e)
          ∙ (sym here ∙ so_far.stored));
    }

-- Segments one after another.

pages_with_bytes : (ram : List (List ℕ)) (pa : ℕ) (bytes : List ℕ) → 0x80000000 ≤ pa →
    pa + length bytes ≤ 0x80000000 + 4096 * length ram → ArePages ram → ArePages (with_bytes ram pa bytes)
pages_with_bytes ram pa [] high fits pages = pages
pages_with_bytes ram pa (b ∷ bytes) high fits pages =
    let inside : frame_of pa < length ram = omega (arith, high, fits) in
    let same : length (with_byte ram pa b) ≡ length ram = length-set ram _ _ in
    pages_with_bytes (with_byte ram pa b) (pa + 1) bytes (omega arith) (rw same (omega (arith, fits)))
    (pages_with_byte ram pa b pages inside)

-- of these segments all but the last ones are stored
pub record LoadsFrom (old p : PagerState) (rest segments : List Segment) : Type 0 where
  pub stays : HasFrames old p p.frames
  pub count : length p.frames ≡ length old.frames
  pub pages : ArePages p.frames
  pub stored : with_segments p.frames rest ≡ with_segments old.frames segments

pub loads_none : (n domains : ℕ) (keys : Keys) (p : PagerState) (rest segments : List Segment) →
    IsNewPager n domains keys p → rest ≡ segments → LoadsFrom p p rest segments
unfolding zero_page
loads_none n domains keys p rest segments new same = record {
  stays = frames_same p;
  count = refl;
  pages =
      subst ArePages (sym new.zeros)
      (All-replicate (λ (page : List ℕ). length page ≡ 4096) n zero_page (length-replicate {A = ℕ} 4096 0));
  stored = ap (with_segments p.frames) same;
}

-- no frame holds a page yet
pub loads_outside : (n domains : ℕ) (keys : Keys) (old p : PagerState) (rest segments : List Segment) →
    IsNewPager n domains keys old → LoadsFrom old p rest segments → (k : ℕ) → held_in p k ≡ None
loads_outside n domains keys old p rest segments new so_far k =
    ap (λ (rights : List FrameRight). page_of (slice_index_or rights k Spent)) so_far.stays.rights_are ∙ elim (cases_lt k n) [
      | inl inside ↦ ap page_of (new.outside k inside)
      | inr past ↦ ap page_of (get_or_past old.rights k Spent (let count = new.count in omega (arith, past, count)))
    ]

-- and none was shown
pub loads_ready : (n domains : ℕ) (keys : Keys) (old p : PagerState) (rest segments : List Segment) →
    IsNewPager n domains keys old → LoadsFrom old p rest segments → IsReady p 0 0
loads_ready n domains keys old p rest segments new so_far = record {
  outside = loads_outside n domains keys old p rest segments new so_far;
  rest = λ q here past. so_far.stays.metas_are q ∙ new.no_metas q;
  later = λ q past. so_far.stays.metas_are q ∙ new.no_metas q;
}

loads_more : (old p p' : PagerState) (s : Segment) (rest segments : List Segment) → LoadsFrom old p (s ∷ rest) segments →
    0x80000000 ≤ s.address → s.address + length s.bytes ≤ 0x80000000 + 4096 * length old.frames →
    HasFrames p p' (with_bytes p.frames s.address s.bytes) → LoadsFrom old p' rest segments
loads_more old p p' s rest segments so_far high fits has =
    let count = so_far.count in
    let room : s.address + length s.bytes ≤ 0x80000000 + 4096 * length p.frames = omega (arith, fits, count) in
    record {
      stays = frames_are old p' _ p'.frames (sym has.frames_are) (frames_then old p p' p.frames _ so_far.stays has);
      count = ap (λ (x : List (List ℕ)). length x) has.frames_are ∙ (length-with_bytes p.frames s.address s.bytes ∙ count);
      pages = subst ArePages (sym has.frames_are) (pages_with_bytes p.frames s.address s.bytes high room so_far.pages);
      stored = ap (λ (x : List (List ℕ)). with_segments x rest) has.frames_are ∙ so_far.stored;
    }

-- segments that lie in RAM, the last one first, of which some are loaded
pub record LoadsBack (n : ℕ) (old p : PagerState) (back segments : List Segment) : Type 0 where
  pub fits : All (IsSegmentIn n) (reverse back)
  pub loads : LoadsFrom old p (reverse back) segments

pub new_count : (n domains : ℕ) (keys : Keys) (old : PagerState) → IsNewPager n domains keys old → length old.frames ≡ n
new_count n domains keys old new = ap (λ (x : List (List ℕ)). length x) new.zeros ∙ length-replicate n zero_page

-- the segment that is loaded next lies in RAM
pub back_fits : (n domains : ℕ) (keys : Keys) (old p : PagerState) (back others segments : List Segment) (s : Segment) →
    IsNewPager n domains keys old → LoadsBack n old p back segments → back ≡ others ++ s ∷ [] →
    IsSegmentIn (length p.frames) s
back_fits n domains keys old p back others segments s new so_far e =
    let all : All (IsSegmentIn n) (s ∷ reverse others) =
    subst (All (IsSegmentIn n)) (back_next back others s e) so_far.fits in
    let count : n ≡ length p.frames = sym (so_far.loads.count ∙ new_count n domains keys old new) in
    subst (λ m. IsSegmentIn m s) count (all 0 s (omega arith))

-- a segment more
pub loads_next : (n domains : ℕ) (keys : Keys) (old p p' : PagerState) (back others segments : List Segment) (s : Segment) →
    IsNewPager n domains keys old → LoadsBack n old p back segments → back ≡ others ++ s ∷ [] →
    HasFrames p p' (with_bytes p.frames s.address s.bytes) → LoadsBack n old p' others segments
loads_next n domains keys old p p' back others segments s new so_far e has =
    let next = back_next back others s e in
    let all : All (IsSegmentIn n) (s ∷ reverse others) = subst (All (IsSegmentIn n)) next so_far.fits in
    let fits : IsSegmentIn n s = all 0 s (omega arith) in
    let count = new_count n domains keys old new in
    record {
      fits = λ i d h. all (suc i) d (omega arith);
      loads =
          loads_more old p p' s (reverse others) segments
          (subst (λ (x : List Segment). LoadsFrom old p x segments) next so_far.loads) fits.from_start
          (let room = fits.to_end in omega (arith, room, count)) has;
    }

-- A segment, piece by piece.

with_bytes_then : (ram : List (List ℕ)) (pa : ℕ) (xs ys : List ℕ) →
    with_bytes ram pa (xs ++ ys) ≡ with_bytes (with_bytes ram pa xs) (pa + length xs) ys
with_bytes_then ram pa [] ys = ap (λ (n : ℕ). with_bytes ram n ys) (let e : pa ≡ pa + 0 = omega arith in e)
with_bytes_then ram pa (x ∷ xs) ys =
    with_bytes_then (with_byte ram pa x) (pa + 1) xs ys
    ∙ ap (λ (n : ℕ). with_bytes (with_bytes (with_byte ram pa x) (pa + 1) xs) n ys)
    (let e : pa + 1 + length xs ≡ pa + suc (length xs) = omega arith in e)

-- of these bytes all but the last ones are stored; those are kept the last one first
pub record StoresBack (old p : PagerState) (address : ℕ) (back : List ℕ) (first : ℕ) (bytes : List ℕ) : Type 0 where
  pub stays : HasFrames old p p.frames
  pub count : length p.frames ≡ length old.frames
  pub pages : ArePages p.frames
  pub outside : (k : ℕ) → held_in p k ≡ None
  pub from_start : 0x80000000 ≤ address
  pub to_end : address + length back ≤ 0x80000000 + 4096 * length old.frames
  pub stored : with_bytes p.frames address (reverse back) ≡ with_bytes old.frames first bytes

pub stores_back_none : (p : PagerState) (s : Segment) (back : List ℕ) → ArePages p.frames → ((k : ℕ) → held_in p k ≡ None) →
    IsSegmentIn (length p.frames) s → back ≡ reverse s.bytes → StoresBack p p s.address back s.address s.bytes
stores_back_none p s back pages outside fits e = record {
  stays = frames_same p;
  count = refl;
  pages = pages;
  outside = outside;
  from_start = fits.from_start;
  to_end = (let room = fits.to_end in omega (arith, room, ap (λ (x : List ℕ). length x) e, length-reverse s.bytes));
  stored = ap (with_bytes p.frames s.address) (ap reverse e ∙ reverse-reverse s.bytes);
}

pub stores_back_more : (old p p' : PagerState) (address n : ℕ) (back rest : List ℕ) (first : ℕ) (bytes : List ℕ) →
    StoresBack old p address back first bytes → n ≤ length back →
    HasFrames p p' (with_bytes p.frames address (reverse (drop (length back - n) back))) →
    rest ≡ take (length back - n) back → StoresBack old p' (address + n) rest first bytes
stores_back_more old p p' address n back rest first bytes so_far few has e =
    let m = length back - n in
    let piece = reverse (drop m back) in
    let size : length piece ≡ n = omega (arith, length-reverse (drop m back), length-drop m back, few) in
    let left : length rest ≡ m = omega (arith, ap (λ (x : List ℕ). length x) e, length-take m back) in
    let count = so_far.count in
    let end = so_far.to_end in
    let high = so_far.from_start in
    let room : address + length piece ≤ 0x80000000 + 4096 * length p.frames = omega (arith, count, end, size, few) in
    let parts : reverse back ≡ piece ++ reverse rest =
    ap reverse (sym (take-append-drop m back)) ∙ (reverse-append (take m back) (drop m back)
    ∙ ap (λ (x : List ℕ). piece ++ reverse x) (sym e)) in
    let here : with_bytes p.frames address (reverse back) ≡ with_bytes (with_bytes p.frames address piece) (address + n) (reverse rest) =
    ap (with_bytes p.frames address) parts ∙ (with_bytes_then p.frames address piece (reverse rest)
    ∙ ap (λ (k : ℕ). with_bytes (with_bytes p.frames address piece) (address + k) (reverse rest)) size) in
    record {
      stays = frames_are old p' _ p'.frames (sym has.frames_are) (frames_then old p p' p.frames _ so_far.stays has);
      count = ap (λ (x : List (List ℕ)). length x) has.frames_are ∙ (length-with_bytes p.frames address piece ∙ count);
      pages = subst ArePages (sym has.frames_are) (pages_with_bytes p.frames address piece high room so_far.pages);
      outside = λ k. ap (λ (rights : List FrameRight). page_of (slice_index_or rights k Spent)) has.rights_are ∙ so_far.outside k;
      from_start = omega (arith, high);
      to_end = omega (arith, left, few, end);
      stored =
          ap (λ (x : List (List ℕ)). with_bytes x (address + n) (reverse rest)) has.frames_are ∙ (sym here ∙ so_far.stored);
    }

-- What is loaded.

-- the pager is new but for its frames, which are RAM with the segments
pub record IsLoaded (old p : PagerState) (k : KernelImage) (domains : ℕ) (keys : Keys) : Type 0 where
  pub new : IsNewPager k.frames domains keys old
  pub blank : StandsBlank k.frames keys old
  pub whole : IsWholePager p
  pub stays : HasFrames old p (with_segments (zero_ram k.frames) k.segments)

pub loaded : (old p : PagerState) (k : KernelImage) (domains : ℕ) (keys : Keys) (back : List Segment) →
    IsNewPager k.frames domains keys old → StandsBlank k.frames keys old → LoadsBack k.frames old p back k.segments →
    length back ≡ 0 → IsWholePager p → IsLoaded old p k domains keys
loaded old p k domains keys [] new blank so_far end whole = record {
  new = new;
  blank = blank;
  whole = whole;
  stays =
      frames_are old p p.frames _
      (so_far.loads.stored ∙ ap (λ (x : List (List ℕ)). with_segments x k.segments) new.zeros) so_far.loads.stays;
}
loaded old p k domains keys (s ∷ back) new blank so_far end whole = absurd (omega (arith, end))

loaded_count : (old p : PagerState) (k : KernelImage) (domains : ℕ) (keys : Keys) → IsLoaded old p k domains keys →
    length p.frames ≡ k.frames
loaded_count old p k domains keys is =
    ap (λ (x : List (List ℕ)). length x) is.stays.frames_are
    ∙ (length-with_segments (zero_ram k.frames) k.segments ∙ length-replicate k.frames zero_page)

-- memory of zeros
blank_memory : KernelImage → Keys → Random → CloakedMemory
blank_memory k keys stream = record {
  ram = zero_ram k.frames;
  plain = λ page. zero_page;
  ledger = started_ledger k.frames keys stream;
  marks = replicate k.harts None;
}

stands_blank : (p : PagerState) (k : KernelImage) (keys : Keys) (stream : Random) → StandsBlank k.frames keys p →
    StandsForMemory p none_wiped (blank_memory k keys stream)
unfolding blank_memory started_ledger
stands_blank p k keys stream blank = blank (blank_memory k keys stream) (record {
  keys_are = refl;
  ram = refl;
  owed = refl;
  recorded = λ q. refl;
  vectors = λ q. refl;
  plain = λ q. refl;
})

-- what is true of a page has nothing to do with the frames
page_still : (m : CloakedMemory) (ram : List (List ℕ)) (q : PageId) (t : Option Meta) → PageStands false m q t →
    PageStands false (record m { ram = ram }) q t
page_still m ram q None stands = stands
page_still m ram q (Some t) stands =
    record { bytes = stands.bytes; is = stands.is; digest = stands.digest; sealed = stands.sealed }

loaded_stands : (old p : PagerState) (k : KernelImage) (domains : ℕ) (keys : Keys) (stream : Random) →
    IsLoaded old p k domains keys → StandsForMemory p none_wiped (started_memory k keys stream)
unfolding blank_memory started_memory started_kernel started_ledger
loaded_stands old p k domains keys stream is =
    let m : CloakedMemory = started_memory k keys stream in
    let s = stands_blank old k keys stream is.blank in
    let has = is.stays in
    record {
      whole = is.whole;
      keys = s.keys ∙ sym has.keys_stay;
      chained = ap (λ (k : Keys). k.seal) has.keys_stay ∙ s.chained;
      count = ap (λ (x : List (List ℕ)). length x) (sym has.frames_are);
      frames = λ f inside.
          let below : f < k.frames = rw (← loaded_count old p k domains keys is) inside in
          subst (λ (h : FrameRight). FrameStands p none_wiped m f h)
          (sym (ap (λ (rights : List FrameRight). slice_index_or rights f Spent) has.rights_are ∙ is.new.outside f below))
          (ap (λ (x : List (List ℕ)). slice_index_or x f []) has.frames_are);
      owed = s.owed ∙ ap (λ (rights : List FrameRight). map owed_under rights) (sym has.rights_are);
      pages = λ q.
          subst (λ (x : Option Meta). PageStands false m q x) (sym (has.metas_are q))
          (page_still (blank_memory k keys stream) m.ram q (meta_at old.table q) (s.pages q));
      vectors = λ q. s.vectors q ∙ ap vector_in (sym (has.metas_are q));
      plain = s.plain;
      drained = s.drained;
    }

pub loaded_holds : (old p : PagerState) (k : KernelImage) (domains : ℕ) (keys : Keys) (stream : Random) (t : Table) →
    (marks : List (Option ℕ)) → IsLoaded old p k domains keys → t ≡ empty_table k.frames → marks ≡ replicate k.harts None →
    Holds (record { pager = p; stream = stream; draws = 0; missed = false; reservations = marks; shadows = t; counting = false })
    (started_memory k keys stream)
unfolding started_memory started_kernel started_ledger
loaded_holds old p k domains keys stream t marks is empty none = record {
  wiped = none_wiped;
  pager = loaded_stands old p k domains keys stream is;
  whole = λ drawn q. refl;
  stream = refl;
  draws = refl;
  missed = refl;
  agrees = subst (λ (u : Table). Agrees (present (held_in p) (started_memory k keys stream)) u) (sym empty) (All-nil _);
  room = ap (λ (u : Table). u.frames) empty ∙ sym (loaded_count old p k domains keys is);
  marks = none;
}
