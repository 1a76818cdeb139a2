-- What is made of frames, pages and programs that are frozen one after another, over plain variables.
use Rattle.std.proofs.Common.{◌≡◌, ◌≢◌, ◌∙◌, ◌<◌, ◌≤◌, ◌+◌, ℕ, zero, suc, Bool, true, false, List, [], ◌∷◌, ◌++◌, length, take, drop, map, slice_get, slice_index_or, slice_set, Option, Some, None, refl, ap, sym, subst, arith, add-one, append_assoc, append-nil, inl, inr}
use Rattle.std.specs.Prelude.{option_map, option_and_then, IsTrue}
use Rattle.std.specs.List.{flat_map}
use Rattle.std.proofs.lemmas.Bool.{cases_lt}
use Rattle.std.proofs.lemmas.Grind.{flat_map-append}
use Rattle.std.proofs.lemmas.List.{at_drop_more, at_drop_all, get_or-set_same, get_or_past, length_push, map-append, take_all, take_more_set}
use Rattle.sha2.specs.Sha256.{sha256}
use Rattle.cloak_base.specs.Random.{Random, next_draw}
use Rattle.cloak_base.specs.declared.names.Meta.{Meta}
use Rattle.cloak_base.specs.declared.names.PageId.{PageId}
use Rattle.cloak_model.specs.Chain.{cbc}
use Rattle.cloak_model.specs.Cloaking.{CloakedMemory, ciphertext_of, owed_in}
use Rattle.cloak_model.specs.Ledger.{Keys, key_in}
use Rattle.cloak_model.specs.Opening.{numbers_below}
use Rattle.protect_meta.specs.Table.{MetaRow, domains_of, meta_at}
use Rattle.cloak_base.specs.declared.causes.Violation.{Violation}
use Rattle.cloak_base.specs.declared.names.SpaceId.{SpaceId}
use Rattle.cloak_model.specs.DomainState as program
use Rattle.cloak_model.specs.Ledger.{domain_key}
use Rattle.cloak_model.specs.Parts as model
use Rattle.thread_context.specs.Recorded.{root_at}
use Rattle.frozen_state.specs.DomainPage.{domain_page}
use Rattle.frozen_state.specs.FrozenState.{Drawn, and_more, by_draw, domain_under, domains_from, frame_under, frames_from, frozen_of, frozen_with, hart_with, meta_for, owed_under, page_named, page_with, pages_of_domains, pages_of_resource, pages_of_resources, recorded_of, roots_of}
use Rattle.frozen_state.specs.declared.frozen.Frozen.{Frozen}
use Rattle.frozen_state.specs.declared.frozen.FrozenDomain.{FrozenDomain}
use Rattle.frozen_state.specs.declared.frozen.FrozenHart.{FrozenHart}
use Rattle.hypercalls.specs.declared.domain.Domain.{Domain}
use Rattle.hypercalls.specs.Standing.{control_of}
use Rattle.frozen_state.specs.declared.frozen.FrozenFrame.{FrozenFrame}
use Rattle.frozen_state.specs.declared.frozen.FrozenPage.{FrozenPage}
use Rattle.cloak_pager.specs.State as pager
use Rattle.cloak_pager.specs.State.{PagerState, IsWholePager, bytes_in, held_in, owed_at, page_of, right_at}
use Rattle.cloak_pager.specs.Relation.{StandsForMemory, FrameStands, PageStands, vector_in}
use Rattle.cloak_pager.specs.Turns.{StaysBut, left_by}
use Rattle.cloak_pager.specs.Freezing.{FreezesFrame}
use Rattle.cloak_model.specs.Cloaking.{AfterSettling}
use Rattle.cloak_model.specs.Sealing.{Sealing, Chained, sealed_by}
use Rattle.cloak_pager.specs.Asking.{FollowsCall, FollowsCallFrom, after_touch, shown_by}
use Rattle.cloak_pager.specs.declared.frame_right.FrameRight.{FrameRight}
use Rattle.cloak_pager.specs.declared.frame_right.FrameRight.TheVariants.{Outside, Clean, Changed, Spent}
use Rattle.cloak_pager.specs.declared.touching.Touched.{Touched}
use Rattle.cloak_pager.proofs.Pages.{same_or_not}
use Rattle.cloak_pager.proofs.Stands.{owed_by_right}
use Rattle.cloak_pager.proofs.Touches.{after_settling}
use Rattle.joint_machine.specs.Freezing.{AreOwedOrOutside, HasRoom, TellsDomain, TellsDomains, TellsFrame, TellsFrames, TellsKeys, newest_in, page_known, pages_known}
use Rattle.frozen_state.specs.declared.room.FrozenRoom.{FrozenRoom}
use Rattle.joint_machine.specs.Standing.{AreDomains, LendsPager, StandsForJoint}
use Rattle.joint_machine.specs.declared.joint.Joint.{Joint}
use Rattle.joint_machine.proofs.Places.{count_domains, domain_at}
use Rattle.cloak_model.proofs.Settling.{settle_unowed}

-- What draws, one after another.

-- after these
pub with_front : {A : Type 0} → List A → Drawn (List A) → Drawn (List A)
with_front {A} front rest = option_map {U = List A × Random} (λ (xs : List A × Random). (front ++ xs.0, xs.1)) rest

pub front_none : {A : Type 0} (rest : Drawn (List A)) → rest ≡ with_front [] rest
unfolding with_front
front_none None = refl
front_none (Some rest) = refl

pub front_ends : {A : Type 0} (front : List A) (more : Random → Drawn (List A)) (first : Drawn A) → first ≡ None →
    with_front front (and_more more first) ≡ None
unfolding with_front
front_ends front more None none = refl
front_ends front more (Some first) none = absurd (cc)

front_of : {A : Type 0} (front : List A) (x : A) (rest : Drawn (List A)) →
    option_map {U = List A × Random} (λ (xs : List A × Random). (front ++ xs.0, xs.1)) (option_map {U = List A × Random} (λ (xs : List A × Random). (x ∷ xs.0, xs.1)) rest)
    ≡ option_map {U = List A × Random} (λ (xs : List A × Random). ((front ++ x ∷ []) ++ xs.0, xs.1)) rest
front_of front x None = refl
front_of {A} front x (Some rest) = ap (λ (l : List A). Some (l, rest.1)) (sym (append_assoc front (x ∷ []) rest.0))

pub front_next : {A : Type 0} (front : List A) (more : Random → Drawn (List A)) (first : Drawn A) (x : A)
    (left : Random) → first ≡ Some (x, left) →
    with_front front (and_more more first) ≡ with_front (front ++ x ∷ []) (more left)
unfolding with_front
front_next front more None x left is = absurd (cc)
front_next {A} front more (Some first) x left is =
    let same : first ≡ (x, left) = cc in
    ap (λ (d : A × Random). option_map {U = List A × Random} (λ (xs : List A × Random). (front ++ xs.0, xs.1)) (option_map {U = List A × Random} (λ (xs : List A × Random). (d.0 ∷ xs.0, xs.1)) (more d.1))) same
    ∙ front_of front x (more left)

pub front_all : {A : Type 0} (front : List A) (left : Random) → with_front front (Some ([], left)) ≡ Some (front, left)
unfolding with_front
front_all {A} front left = ap (λ (l : List A). Some (l, left)) (append-nil front)

-- Frames that are owed nothing.

pub held_if_owed : (h : FrameRight) → pager.owed_under h ≢ None → page_of h ≡ pager.owed_under h
held_if_owed (Outside r) owed = absurd (owed refl)
held_if_owed (Clean r) owed = absurd (owed refl)
held_if_owed (Changed r) owed = refl
held_if_owed Spent owed = absurd (owed refl)

-- a touch of one of them leaves the memory
pub resealed_stands : (p p' : PagerState) (stream left : Random) (result : Touched) (f : ℕ) →
    FollowsCall p stream p' left (shown_by result f p') (after_touch f) → owed_at p f ≡ None →
    (wiped : PageId → Bool) (m : CloakedMemory) → StandsForMemory p wiped m → m.ledger.stream ≡ stream →
    StandsForMemory p' wiped m
resealed_stands p p' stream left result f follows none wiped m stands same =
    let M : AfterSettling → Type 0 =
    λ x. FollowsCallFrom p' left (shown_by result f p') (after_settling x (owed_in m f) wiped) in
    let none_owed = owed_by_right p wiped m stands f ∙ none in
    (subst M (settle_unowed f m none_owed) (follows wiped m stands same)).stands

-- so are all below this number, and no other frame changed
pub record ResealsBelow (old p : PagerState) (stream left : Random) (n : ℕ) : Type 0 where
  pub count : length p.frames ≡ length old.frames
  pub domains : domains_of p.table ≡ domains_of old.table
  pub settled : (k : ℕ) → k < n → held_in p k ≡ owed_at p k
  pub stream_stays : left ≡ stream
  pub stands : (wiped : PageId → Bool) (m : CloakedMemory) → StandsForMemory old wiped m → m.ledger.stream ≡ stream →
      StandsForMemory p wiped m

pub reseals_none : (p : PagerState) (stream : Random) → ResealsBelow p p stream stream 0
reseals_none p stream = record {
  count = refl;
  domains = refl;
  settled = λ k low. absurd (omega (arith, low));
  stream_stays = refl;
  stands = λ wiped m stands same. stands;
}

pub reseals_next : (old p p' : PagerState) (stream left left' : Random) (n : ℕ) → ResealsBelow old p stream left n →
    StaysBut n p p' → owed_at p' n ≡ owed_at p n → held_in p' n ≡ owed_at p n → left' ≡ left →
    ((wiped : PageId → Bool) (m : CloakedMemory) → StandsForMemory p wiped m → m.ledger.stream ≡ left →
    StandsForMemory p' wiped m) → ResealsBelow old p' stream left' (n + 1)
reseals_next old p p' stream left left' n so_far stays owed held same stands = record {
  count = stays.count ∙ so_far.count;
  domains = stays.domains ∙ so_far.domains;
  settled = λ k low. elim (same_or_not k n) [
    | inl here ↦ subst (λ (i : ℕ). held_in p' i ≡ owed_at p' i) (sym here) (held ∙ sym owed)
    | inr other ↦
        ap page_of (stays.rights k other)
        ∙ (so_far.settled k (omega (arith, low, other)) ∙ ap pager.owed_under (sym (stays.rights k other)))
  ];
  stream_stays = same ∙ so_far.stream_stays;
  stands = λ wiped m was is. stands wiped m (so_far.stands wiped m was is) (is ∙ sym so_far.stream_stays);
}

pub reseals_all : (old p : PagerState) (stream left : Random) (n : ℕ) → ResealsBelow old p stream left n →
    IsWholePager p → length p.frames ≤ n → AreOwedOrOutside p
reseals_all old p stream left n so_far whole past k = elim (cases_lt k n) [
  | inl low ↦ so_far.settled k low
  | inr high ↦
      let spent : right_at p k ≡ Spent =
      get_or_past p.rights k Spent (let count = whole.count in omega (arith, count, past, high)) in
      ap page_of spent ∙ ap pager.owed_under (sym spent)
]

pub reseals_lend : (old p : PagerState) (stream left : Random) (n : ℕ) → ResealsBelow old p stream left n →
    (m : CloakedMemory) → LendsPager old m → m.ledger.stream ≡ stream → LendsPager p m
reseals_lend old p stream left n so_far m lends same = record {
  wiped = lends.wiped;
  stands = so_far.stands lends.wiped m lends.stands same;
  whole = lends.whole;
}

-- What the pager then tells.

told_bytes : (p : PagerState) (wiped : PageId → Bool) (m : CloakedMemory) (f : ℕ) (h : FrameRight) → FrameStands p wiped m f h →
    page_of h ≡ pager.owed_under h → ((q : PageId) → wiped q ≡ false) → bytes_in p f ≡ newest_in m f (pager.owed_under h)
told_bytes p wiped m f (Outside r) stands settled kept = stands
told_bytes p wiped m f (Clean r) stands settled kept = absurd (let clash : Some r.page ≡ None = settled in cc)
told_bytes p wiped m f (Changed r) stands settled kept = stands (kept r.page)
told_bytes p wiped m f Spent stands settled kept = absurd stands

pub tells_frames : (p : PagerState) (m : CloakedMemory) → LendsPager p m → m.ledger.missed ≡ false → AreOwedOrOutside p →
    TellsFrames p m
tells_frames p m lends drawn settled = record {
  keys = record { keys = lends.stands.keys; chained = lends.stands.chained };
  count = lends.stands.count;
  each = λ f low. record {
    owed = owed_by_right p lends.wiped m lends.stands f;
    bytes = told_bytes p lends.wiped m f (right_at p f) (lends.stands.frames f low) (settled f) (lends.whole drawn)
        ∙ ap (newest_in m f) (sym (owed_by_right p lends.wiped m lends.stands f));
  };
}

-- One frame.

abbrev pub frame_showing : List ℕ → FrozenFrame
frame_showing bytes = record { bytes = bytes; owed = None }

abbrev pub frame_owing : PageId → List ℕ → Meta → FrozenFrame
frame_owing q bytes told = record { bytes = bytes; owed = Some (q, told) }

same_owing : (q : PageId) (a b : List ℕ) (t u : Meta) → a ≡ b → t ≡ u → frame_owing q a t ≡ frame_owing q b u
same_owing q a b t u first second = λ i. record { bytes = first i; owed = Some (q, second i) }

pub frame_shown : (p : PagerState) (m : CloakedMemory) (f : ℕ) (ivs : Random) (bytes : List ℕ) → TellsFrame p m f →
    owed_at p f ≡ None → bytes ≡ bytes_in p f →
    frame_under m (slice_index_or m.ram f []) (owed_in m f) ivs ≡ Some (frame_showing bytes, ivs)
frame_shown p m f ivs bytes tells none read =
    let owes : owed_in m f ≡ None = tells.owed ∙ none in
    let is : slice_index_or m.ram f [] ≡ bytes = sym (read ∙ (tells.bytes ∙ ap (newest_in m f) owes)) in
    ap (λ (o : Option PageId). frame_under m (slice_index_or m.ram f []) o ivs) owes
    ∙ ap (λ (x : List ℕ). Some (frame_showing x, ivs)) is

-- what a frame shows that was frozen
pub frozen_bytes : (p p' : PagerState) (f : ℕ) (q : PageId) (iv : List ℕ) (told : Meta) (froze : FreezesFrame p p' f iv told) →
    f < length p.frames → owed_at p f ≡ Some q → bytes_in p' f ≡ cbc (key_in p.keys q) iv (bytes_in p f)
frozen_bytes p p' f q iv told froze low owed =
    let same : froze.page ≡ q = (let e : Some froze.page ≡ Some q = sym froze.owed ∙ owed in cc) in
    ap (λ (l : List (List ℕ)). slice_index_or l f []) froze.shows.frames_are
    ∙ (get_or-set_same p.frames f (cbc (key_in p.keys froze.page) iv (bytes_in p f)) [] low
    ∙ ap (λ (o : PageId). cbc (key_in p.keys o) iv (bytes_in p f)) same)

pub frozen_told : (p p' : PagerState) (f : ℕ) (q : PageId) (iv : List ℕ) (told : Meta) (froze : FreezesFrame p p' f iv told) →
    owed_at p f ≡ Some q → told ≡ meta_for iv (cbc (key_in p.keys q) iv (bytes_in p f))
frozen_told p p' f q iv told froze owed =
    let same : froze.page ≡ q = (let e : Some froze.page ≡ Some q = sym froze.owed ∙ owed in cc) in
    froze.told_is ∙ ap (λ (o : PageId). meta_for iv (cbc (key_in p.keys o) iv (bytes_in p f))) same

pub frame_drawn : (p p' : PagerState) (m : CloakedMemory) (f : ℕ) (q : PageId) (ivs left : Random) (iv bytes : List ℕ)
    (told : Meta) → TellsFrame p m f → TellsKeys p m → owed_at p f ≡ Some q → next_draw ivs ≡ Some (iv, left) →
    FreezesFrame p p' f iv told → f < length p.frames → bytes ≡ bytes_in p' f →
    frame_under m (slice_index_or m.ram f []) (owed_in m f) ivs
    ≡ Some (frame_owing q bytes told, left)
unfolding owed_under
frame_drawn p p' m f q ivs left iv bytes told tells keys owed drawn froze low read =
    let plain : bytes_in p f ≡ m.plain q = tells.bytes ∙ ap (newest_in m f) (tells.owed ∙ owed) in
    let sealed : cbc (key_in m.ledger.keys q) iv (m.plain q) ≡ ciphertext_of m.ledger q iv (m.plain q) =
    ap (λ (s : Sealing). sealed_by s (key_in m.ledger.keys q) iv (m.plain q))
    (sym (ap (λ (k : Keys). k.seal) keys.keys ∙ keys.chained)) in
    let cipher : cbc (key_in p.keys q) iv (bytes_in p f) ≡ ciphertext_of m.ledger q iv (m.plain q) =
    ap (λ (k : Keys). cbc (key_in k q) iv (bytes_in p f)) (sym keys.keys)
    ∙ (ap (λ (b : List ℕ). cbc (key_in m.ledger.keys q) iv b) plain ∙ sealed) in
    let shown : bytes ≡ ciphertext_of m.ledger q iv (m.plain q) =
    read ∙ (frozen_bytes p p' f q iv told froze low owed ∙ cipher) in
    let known : told ≡ meta_for iv (ciphertext_of m.ledger q iv (m.plain q)) =
    frozen_told p p' f q iv told froze owed ∙ ap (meta_for iv) cipher in
    ap (λ (o : Option PageId). frame_under m (slice_index_or m.ram f []) o ivs) (tells.owed ∙ owed)
    ∙ (ap (λ (d : Option (List ℕ × Random)). option_map (λ (draw : List ℕ × Random). (owed_under m q draw.0, draw.1)) d) drawn
    ∙ ap (λ (x : FrozenFrame). Some (x, left)) (same_owing q _ bytes _ told (sym shown) (sym known)))

-- All frames.

-- what has the same keys
keys_next : (old p : PagerState) (m : CloakedMemory) → p.keys ≡ old.keys → TellsKeys old m → TellsKeys p m
keys_next old p m same tells = record {
  keys = tells.keys ∙ sym same;
  chained = ap (λ (k : Keys). k.seal) same ∙ tells.chained;
}

pub record FreezesFrom (old p : PagerState) (ivs left : Random) (i : ℕ) (frames : List FrozenFrame) : Type 0 where
  pub count : length p.frames ≡ length old.frames
  pub domains : domains_of p.table ≡ domains_of old.table
  pub keys : p.keys ≡ old.keys
  pub metas : (q : PageId) → meta_at p.table q ≡ meta_at old.table q
  pub rights : (k : ℕ) → i ≤ k → right_at p k ≡ right_at old k
  pub bytes : (k : ℕ) → i ≤ k → bytes_in p k ≡ bytes_in old k
  pub filled : length frames ≡ i
  pub draws : (m : CloakedMemory) → TellsFrames old m →
      frames_from m 0 m.ram ivs ≡ with_front frames (frames_from m i (drop i m.ram) left)

pub freezes_none : (p : PagerState) (ivs : Random) (frames : List FrozenFrame) → frames ≡ [] → FreezesFrom p p ivs ivs 0 frames
freezes_none p ivs frames empty = record {
  count = refl;
  domains = refl;
  keys = refl;
  metas = λ q. refl;
  rights = λ k high. refl;
  bytes = λ k high. refl;
  filled = ap length empty;
  draws = λ m tells.
      front_none (frames_from m 0 m.ram ivs)
      ∙ ap (λ (l : List FrozenFrame). with_front l (frames_from m 0 m.ram ivs)) (sym empty);
}

-- the next one is still as it was
pub tells_next : (old p : PagerState) (ivs left : Random) (i : ℕ) (frames : List FrozenFrame) (m : CloakedMemory) →
    FreezesFrom old p ivs left i frames → i < length old.frames → TellsFrames old m → TellsFrame p m i
tells_next old p ivs left i frames m so_far low tells =
    let here = tells.each i low in record {
      owed = here.owed ∙ ap pager.owed_under (sym (so_far.rights i (omega arith)));
      bytes = so_far.bytes i (omega arith) ∙ here.bytes;
    }

next_of : (m : CloakedMemory) (i : ℕ) (left : Random) → i < length m.ram →
    frames_from m i (drop i m.ram) left
    ≡ and_more (frames_from m (i + 1) (drop (i + 1) m.ram)) (frame_under m (slice_index_or m.ram i []) (owed_in m i) left)
unfolding frames_from
next_of m i left low = at_drop_more (λ (l : List (List ℕ)). frames_from m i l left) m.ram i [] low

pub freezes_next : (old p p' : PagerState) (ivs left left' : Random) (i : ℕ) (frames frames' : List FrozenFrame)
    (x : FrozenFrame) → FreezesFrom old p ivs left i frames → i < length old.frames → StaysBut i p p' →
    ((q : PageId) → meta_at p'.table q ≡ meta_at p.table q) → frames' ≡ frames ++ x ∷ [] →
    ((m : CloakedMemory) → TellsFrame p m i → TellsKeys p m →
    frame_under m (slice_index_or m.ram i []) (owed_in m i) left ≡ Some (x, left')) →
    FreezesFrom old p' ivs left' (i + 1) frames'
freezes_next old p p' ivs left left' i frames frames' x so_far low stays metas pushed made = record {
  count = stays.count ∙ so_far.count;
  domains = stays.domains ∙ so_far.domains;
  keys = stays.keys ∙ so_far.keys;
  metas = λ q. metas q ∙ so_far.metas q;
  rights = λ k high. stays.rights k (λ e. absurd (omega (arith, high, e))) ∙ so_far.rights k (omega (arith, high));
  bytes = λ k high. stays.bytes k (λ e. absurd (omega (arith, high, e))) ∙ so_far.bytes k (omega (arith, high));
  filled = ap length pushed ∙ (let a = length_push frames x in let b = so_far.filled in omega (arith, a, b));
  draws = λ m tells.
      let inside : i < length m.ram = (let count = tells.count in omega (arith, count, low)) in
      let first = made m (tells_next old p ivs left i frames m so_far low tells) (keys_next old p m so_far.keys tells.keys) in
      so_far.draws m tells
      ∙ (ap (with_front frames) (next_of m i left inside)
      ∙ (front_next frames (frames_from m (i + 1) (drop (i + 1) m.ram)) _ x left' first
      ∙ ap (λ (l : List FrozenFrame). with_front l (frames_from m (i + 1) (drop (i + 1) m.ram) left')) (sym pushed)));
}

pub freezes_ends : (old p : PagerState) (ivs left : Random) (i : ℕ) (frames : List FrozenFrame) →
    FreezesFrom old p ivs left i frames → i < length old.frames →
    ((m : CloakedMemory) → TellsFrame p m i → TellsKeys p m →
    frame_under m (slice_index_or m.ram i []) (owed_in m i) left ≡ None) →
    (m : CloakedMemory) → TellsFrames old m → frames_from m 0 m.ram ivs ≡ None
freezes_ends old p ivs left i frames so_far low none m tells =
    let inside : i < length m.ram = (let count = tells.count in omega (arith, count, low)) in
    so_far.draws m tells
    ∙ (ap (with_front frames) (next_of m i left inside)
    ∙ front_ends frames (frames_from m (i + 1) (drop (i + 1) m.ram)) _
    (none m (tells_next old p ivs left i frames m so_far low tells) (keys_next old p m so_far.keys tells.keys)))

past_frames : (m : CloakedMemory) (i : ℕ) (left : Random) → length m.ram ≤ i →
    frames_from m i (drop i m.ram) left ≡ Some ([], left)
unfolding frames_from
past_frames m i left past = at_drop_all (λ (l : List (List ℕ)). frames_from m i l left) m.ram i past

pub freezes_all : (old p : PagerState) (ivs left : Random) (i : ℕ) (frames : List FrozenFrame) →
    FreezesFrom old p ivs left i frames → length old.frames ≤ i → (m : CloakedMemory) → TellsFrames old m →
    frames_from m 0 m.ram ivs ≡ Some (frames, left)
freezes_all old p ivs left i frames so_far past m tells =
    so_far.draws m tells
    ∙ (ap (with_front frames) (past_frames m i left (let count = tells.count in omega (arith, count, past)))
    ∙ front_all frames left)

-- Pages.

pub known_one : (t : MetaRow) (q : PageId) → pages_known t (q ∷ []) ≡ page_known q (meta_at t q)
unfolding pages_known
known_one t q = append-nil (page_known q (meta_at t q))

pub known_append : (t : MetaRow) (xs ys : List PageId) → pages_known t (xs ++ ys) ≡ pages_known t xs ++ pages_known t ys
unfolding pages_known
known_append t xs ys = flat_map-append (λ (q : PageId). page_known q (meta_at t q)) xs ys

resource_next : (d r n : ℕ) → pages_of_resource d r (n + 1) ≡ pages_of_resource d r n ++ page_named d r n ∷ []
unfolding pages_of_resource
resource_next d r n =
    ap (λ (k : ℕ). map (page_named d r) (numbers_below k)) (add-one n)
    ∙ map-append (page_named d r) (numbers_below n) (n ∷ [])

resources_next : (d n : ℕ) → pages_of_resources d (n + 1) ≡ pages_of_resources d n ++ pages_of_resource d n 1024
unfolding pages_of_resources
resources_next d n =
    ap (λ (k : ℕ). flat_map (λ (r : ℕ). pages_of_resource d r 1024) (numbers_below k)) (add-one n)
    ∙ (flat_map-append (λ (r : ℕ). pages_of_resource d r 1024) (numbers_below n) (n ∷ [])
    ∙ ap (λ (l : List PageId). flat_map (λ (r : ℕ). pages_of_resource d r 1024) (numbers_below n) ++ l) (append-nil (pages_of_resource d n 1024)))

all_next : (n : ℕ) → pages_of_domains (n + 1) ≡ pages_of_domains n ++ pages_of_resources n 16
unfolding pages_of_domains
all_next n =
    ap (λ (k : ℕ). flat_map (λ (d : ℕ). pages_of_resources d 16) (numbers_below k)) (add-one n)
    ∙ (flat_map-append (λ (d : ℕ). pages_of_resources d 16) (numbers_below n) (n ∷ [])
    ∙ ap (λ (l : List PageId). flat_map (λ (d : ℕ). pages_of_resources d 16) (numbers_below n) ++ l) (append-nil (pages_of_resources n 16)))

-- these pages were added, of which the next ones are those
grown : (t : MetaRow) (old now new : List FrozenPage) (pages more pages' : List PageId) → now ≡ old ++ pages_known t pages →
    new ≡ now ++ pages_known t more → pages' ≡ pages ++ more → new ≡ old ++ pages_known t pages'
grown t old now new pages more pages' so_far added is =
    added ∙ (ap (λ (l : List FrozenPage). l ++ pages_known t more) so_far
    ∙ (append_assoc old (pages_known t pages) (pages_known t more)
    ∙ ap (λ (l : List FrozenPage). old ++ l) (sym (known_append t pages more) ∙ ap (pages_known t) (sym is))))

pub page_added : (t : MetaRow) (d r n : ℕ) (old now new : List FrozenPage) →
    now ≡ old ++ pages_known t (pages_of_resource d r n) →
    new ≡ now ++ page_known (page_named d r n) (meta_at t (page_named d r n)) →
    new ≡ old ++ pages_known t (pages_of_resource d r (n + 1))
page_added t d r n old now new so_far added =
    grown t old now new (pages_of_resource d r n) (page_named d r n ∷ []) (pages_of_resource d r (n + 1)) so_far
    (added ∙ ap (λ (l : List FrozenPage). now ++ l) (sym (known_one t (page_named d r n)))) (resource_next d r n)

pub resource_added : (t : MetaRow) (d n : ℕ) (old now new : List FrozenPage) →
    now ≡ old ++ pages_known t (pages_of_resources d n) → new ≡ now ++ pages_known t (pages_of_resource d n 1024) →
    new ≡ old ++ pages_known t (pages_of_resources d (n + 1))
resource_added t d n old now new so_far added =
    grown t old now new (pages_of_resources d n) (pages_of_resource d n 1024) (pages_of_resources d (n + 1)) so_far added
    (resources_next d n)

pub domain_added : (t : MetaRow) (n : ℕ) (now new : List FrozenPage) →
    now ≡ pages_known t (pages_of_domains n) → new ≡ now ++ pages_known t (pages_of_resources n 16) →
    new ≡ pages_known t (pages_of_domains (n + 1))
domain_added t n now new so_far added =
    grown t [] now new (pages_of_domains n) (pages_of_resources n 16) (pages_of_domains (n + 1)) so_far added (all_next n)

pub none_of_resource : (t : MetaRow) (d r : ℕ) (old : List FrozenPage) → old ≡ old ++ pages_known t (pages_of_resource d r 0)
unfolding pages_known pages_of_resource
none_of_resource t d r old = sym (append-nil old)

pub none_of_resources : (t : MetaRow) (d : ℕ) (old : List FrozenPage) → old ≡ old ++ pages_known t (pages_of_resources d 0)
unfolding pages_known pages_of_resources
none_of_resources t d old = sym (append-nil old)

pub none_of_all : (t : MetaRow) → [] ≡ pages_known t (pages_of_domains 0)
unfolding pages_known pages_of_domains
none_of_all t = refl

-- What is known of a page is what the rules have of it.

page_is : (m : CloakedMemory) (q : PageId) (lost : Bool) (t : Option Meta) → PageStands lost m q t →
    m.ledger.iv q ≡ vector_in t → page_with q (m.ledger.recorded q) (m.ledger.iv q) ≡ page_known q t
page_is m q lost None stands vector =
    ap (λ (r : Option (List ℕ)). page_with q r (m.ledger.iv q)) stands.0
    ∙ ap (λ (v : Option (List ℕ)). page_with q None v) vector
page_is m q lost (Some t) stands vector =
    ap (λ (r : Option (List ℕ)). page_with q r (m.ledger.iv q)) stands.is
    ∙ (ap (λ (v : Option (List ℕ)). page_with q (Some stands.bytes) v) vector
    ∙ (let one : List ℕ → List FrozenPage = λ x. record { page = q; meta = record { iv = t.iv; digest = x } } ∷ [] in
    ap one stands.digest))

pub recorded_is : (p : PagerState) (wiped : PageId → Bool) (m : CloakedMemory) → StandsForMemory p wiped m →
    (pages : List PageId) → recorded_of m.ledger pages ≡ pages_known p.table pages
unfolding pages_known
recorded_is p wiped m stands [] = refl
recorded_is p wiped m stands (q ∷ pages) =
    ap (λ (l : List FrozenPage). l ++ recorded_of m.ledger pages)
    (page_is m q (wiped q) (meta_at p.table q) (stands.pages q) (stands.vectors q))
    ∙ ap (λ (l : List FrozenPage). page_known q (meta_at p.table q) ++ l) (recorded_is p wiped m stands pages)

-- Page tables.

-- those of the first spaces are told
pub roots_next : (root : SpaceId → Option ℕ) (d n : ℕ) (all all' : List (Option ℕ)) (x : Option ℕ) →
    take n all ≡ map (λ (space : ℕ). root (record { domain = d; number = space })) (numbers_below n) → n < length all →
    x ≡ root (record { domain = d; number = n }) → all' ≡ slice_set all n x →
    take (n + 1) all' ≡ map (λ (space : ℕ). root (record { domain = d; number = space })) (numbers_below (n + 1))
roots_next root d n all all' x so_far low is set =
    let named = λ (space : ℕ). root (record { domain = d; number = space }) in
    ap (take (n + 1)) set
    ∙ (take_more_set all n x low
    ∙ (ap (λ (l : List (Option ℕ)). l ++ x ∷ []) so_far
    ∙ (ap (λ (y : Option ℕ). map named (numbers_below n) ++ y ∷ []) is
    ∙ (sym (map-append named (numbers_below n) (n ∷ []))
    ∙ ap (λ (k : ℕ). map named (numbers_below k)) (sym (add-one n))))))

pub all_roots : (root : SpaceId → Option ℕ) (d n : ℕ) (all : List (Option ℕ)) →
    take n all ≡ map (λ (space : ℕ). root (record { domain = d; number = space })) (numbers_below n) → n ≡ 8 →
    length all ≡ 8 → all ≡ roots_of root d
all_roots root d n all so_far whole count =
    let named = λ (space : ℕ). root (record { domain = d; number = space }) in
    sym (take_all n all (omega (arith, whole, count)))
    ∙ (so_far ∙ ap (λ (k : ℕ). map named (numbers_below k)) whole)

-- Programs.

pub domain_undrawn : (j : model.Joint) (number : ℕ) (d : program.Domain) (ivs : Random) → next_draw ivs ≡ None →
    by_draw (domain_under j number d) ivs ≡ None
domain_undrawn j number d ivs none =
    ap (λ (x : Option (List ℕ × Random)). option_map (λ (draw : List ℕ × Random). (domain_under j number d draw.0, draw.1)) x) none

abbrev pub domain_showing : Option Violation → List (Option ℕ) → List ℕ → List ℕ → List ℕ → FrozenDomain
domain_showing violation roots iv digest page =
    record { violation = violation; roots = roots; meta = record { iv = iv; digest = digest }; page = page }

same_showing : (v w : Option Violation) (r s : List (Option ℕ)) (iv d e p q : List ℕ) → v ≡ w → r ≡ s → d ≡ e → p ≡ q →
    domain_showing v r iv d p ≡ domain_showing w s iv e q
same_showing v w r s iv d e p q a b c f =
    λ i. record { violation = a i; roots = b i; meta = record { iv = iv; digest = c i }; page = f i }

pub domain_drawn : (p : PagerState) (roots : List (List (Option ℕ))) (violation : Option Violation) (number : ℕ)
    (domain : Domain) (d : program.Domain) (j : model.Joint) (ivs left : Random) (iv plain page digest : List ℕ)
    (tables : List (Option ℕ)) → TellsDomain p roots violation number domain d j → next_draw ivs ≡ Some (iv, left) →
    plain ≡ domain_page (control_of domain) → page ≡ cbc (domain_key p.keys number) iv plain → digest ≡ sha256 page →
    tables ≡ roots_of (root_at roots) number →
    by_draw (domain_under j number d) ivs
    ≡ Some (domain_showing violation tables iv digest page, left)
unfolding domain_under
domain_drawn p roots violation number domain d j ivs left iv plain page digest tables tells drawn is sealed hashed rooted =
    let shown : page ≡ cbc (domain_key j.memory.ledger.keys number) iv (domain_page d.control) =
    sealed ∙ (ap (cbc (domain_key p.keys number) iv) (is ∙ ap domain_page (sym tells.control))
    ∙ ap (λ (k : Keys). cbc (domain_key k number) iv (domain_page d.control)) (sym tells.keys)) in
    let tables_are : tables ≡ roots_of j.memory.ledger.root number =
    rooted ∙ roots_alike (root_at roots) j.memory.ledger.root number tells.roots_are (numbers_below 8) in
    ap (λ (x : Option (List ℕ × Random)). option_map (λ (draw : List ℕ × Random). (domain_under j number d draw.0, draw.1)) x) drawn
    ∙ ap (λ (x : FrozenDomain). Some (x, left))
    (same_showing _ violation _ tables iv _ digest _ page (sym tells.ended) (sym tables_are)
    (ap sha256 (sym shown) ∙ sym hashed) (sym shown))
  where
    roots_alike : (f g : SpaceId → Option ℕ) (d : ℕ) → ((s : SpaceId) → f s ≡ g s) → (spaces : List ℕ) →
        map (λ (space : ℕ). f (record { domain = d; number = space })) spaces
        ≡ map (λ (space : ℕ). g (record { domain = d; number = space })) spaces
    roots_alike f g d same [] = refl
    roots_alike f g d same (n ∷ spaces) =
        let rest = roots_alike f g d same spaces in
        λ i. same (record { domain = d; number = n }) i ∷ rest i

-- programs that are frozen one after another
pub record DomainsFrom (p : PagerState) (roots : List (List (Option ℕ))) (ended : List (Option Violation))
    (domains : List Domain) (ivs left : Random) (i : ℕ) (frozen : List FrozenDomain) : Type 0 where
  pub filled : length frozen ≡ i
  pub draws : (j : model.Joint) → TellsDomains p roots ended domains j →
      domains_from j 0 j.domains ivs ≡ with_front frozen (domains_from j i (drop i j.domains) left)

pub domains_none : (p : PagerState) (roots : List (List (Option ℕ))) (ended : List (Option Violation)) (domains : List Domain)
    (ivs : Random) (frozen : List FrozenDomain) → frozen ≡ [] → DomainsFrom p roots ended domains ivs ivs 0 frozen
domains_none p roots ended domains ivs frozen empty = record {
  filled = ap length empty;
  draws = λ j tells.
      front_none (domains_from j 0 j.domains ivs)
      ∙ ap (λ (l : List FrozenDomain). with_front l (domains_from j 0 j.domains ivs)) (sym empty);
}

-- the next one
pub domain_tells : (p : PagerState) (roots : List (List (Option ℕ))) (ended : List (Option Violation)) (domains : List Domain)
    (i : ℕ) (x : Domain) (d : program.Domain) (violation : Option Violation) (j : model.Joint) →
    TellsDomains p roots ended domains j → violation ≡ slice_index_or ended i None → slice_get domains i ≡ Some x →
    slice_get j.domains i ≡ Some d → TellsDomain p roots violation i x d j
domain_tells p roots ended domains i x d violation j tells met there is =
    let at = domain_at domains j.domains i x tells.domains_are there in
    let same : at.0 ≡ d = (let e : Some at.0 ≡ Some d = sym at.1.0 ∙ is in cc) in
    record {
      keys = tells.keys;
      roots_are = tells.roots_are;
      ended = met ∙ ap (λ (l : List (Option Violation)). slice_index_or l i None) tells.ended_are;
      control = ap (λ (y : program.Domain). y.control) (sym same) ∙ at.1.1.control;
    }

drop_suc : {A : Type 0} (xs : List A) (i : ℕ) (x : A) → slice_get xs i ≡ Some x → drop i xs ≡ x ∷ drop (suc i) xs
drop_suc [] i x is = absurd (cc)
drop_suc {A} (y ∷ xs) zero x is = ap (λ (z : A). z ∷ xs) (let e : y ≡ x = cc in e)
drop_suc (y ∷ xs) (suc i) x is = drop_suc xs i x is

drop_get : {A : Type 0} (xs : List A) (i : ℕ) (x : A) → slice_get xs i ≡ Some x → drop i xs ≡ x ∷ drop (i + 1) xs
drop_get {A} xs i x is =
    let next : ℕ → List A = λ k. x ∷ drop k xs in drop_suc xs i x is ∙ ap next (sym (add-one i))

domains_step : (j : model.Joint) (i : ℕ) (d : program.Domain) (left : Random) → slice_get j.domains i ≡ Some d →
    domains_from j i (drop i j.domains) left
    ≡ and_more (domains_from j (i + 1) (drop (i + 1) j.domains)) (by_draw (domain_under j i d) left)
unfolding domains_from
domains_step j i d left is = ap (λ (l : List program.Domain). domains_from j i l left) (drop_get j.domains i d is)

pub domains_next : (p : PagerState) (roots : List (List (Option ℕ))) (ended : List (Option Violation)) (domains : List Domain)
    (ivs left left' : Random) (i : ℕ) (frozen frozen' : List FrozenDomain) (x : Domain) (y : FrozenDomain)
    (violation : Option Violation) → DomainsFrom p roots ended domains ivs left i frozen → slice_get domains i ≡ Some x →
    violation ≡ slice_index_or ended i None → frozen' ≡ frozen ++ y ∷ [] →
    ((j : model.Joint) (d : program.Domain) → TellsDomain p roots violation i x d j →
    by_draw (domain_under j i d) left ≡ Some (y, left')) →
    DomainsFrom p roots ended domains ivs left' (i + 1) frozen'
domains_next p roots ended domains ivs left left' i frozen frozen' x y violation so_far there met pushed made = record {
  filled = ap length pushed ∙ (let a = length_push frozen y in let b = so_far.filled in omega (arith, a, b));
  draws = λ j tells.
      let at = domain_at domains j.domains i x tells.domains_are there in
      let first = made j at.0 (domain_tells p roots ended domains i x at.0 violation j tells met there at.1.0) in
      so_far.draws j tells
      ∙ (ap (with_front frozen) (domains_step j i at.0 left at.1.0)
      ∙ (front_next frozen (domains_from j (i + 1) (drop (i + 1) j.domains)) _ y left' first
      ∙ ap (λ (l : List FrozenDomain). with_front l (domains_from j (i + 1) (drop (i + 1) j.domains) left')) (sym pushed)));
}

pub domains_end : (p : PagerState) (roots : List (List (Option ℕ))) (ended : List (Option Violation)) (domains : List Domain)
    (ivs left : Random) (i : ℕ) (frozen : List FrozenDomain) (x : Domain) (violation : Option Violation) →
    DomainsFrom p roots ended domains ivs left i frozen → slice_get domains i ≡ Some x →
    violation ≡ slice_index_or ended i None →
    ((j : model.Joint) (d : program.Domain) → TellsDomain p roots violation i x d j →
    by_draw (domain_under j i d) left ≡ None) →
    (j : model.Joint) → TellsDomains p roots ended domains j → domains_from j 0 j.domains ivs ≡ None
domains_end p roots ended domains ivs left i frozen x violation so_far there met none j tells =
    let at = domain_at domains j.domains i x tells.domains_are there in
    so_far.draws j tells
    ∙ (ap (with_front frozen) (domains_step j i at.0 left at.1.0)
    ∙ front_ends frozen (domains_from j (i + 1) (drop (i + 1) j.domains)) _
    (none j at.0 (domain_tells p roots ended domains i x at.0 violation j tells met there at.1.0)))

past_domains : (j : model.Joint) (i : ℕ) (left : Random) → length j.domains ≤ i →
    domains_from j i (drop i j.domains) left ≡ Some ([], left)
unfolding domains_from
past_domains j i left past = at_drop_all (λ (l : List program.Domain). domains_from j i l left) j.domains i past

pub domains_all : (p : PagerState) (roots : List (List (Option ℕ))) (ended : List (Option Violation)) (domains : List Domain)
    (ivs left : Random) (i : ℕ) (frozen : List FrozenDomain) → DomainsFrom p roots ended domains ivs left i frozen →
    length domains ≤ i → (j : model.Joint) → TellsDomains p roots ended domains j →
    domains_from j 0 j.domains ivs ≡ Some (frozen, left)
domains_all p roots ended domains ivs left i frozen so_far past j tells =
    so_far.draws j tells
    ∙ (ap (with_front frozen)
    (past_domains j i left (let count = count_domains domains j.domains tells.domains_are in omega (arith, count, past)))
    ∙ front_all frozen left)

-- The whole.

pub frozen_none : (j : model.Joint) (steps : ℕ) (ivs : Random) → domains_from j 0 j.domains ivs ≡ None →
    frozen_of j steps ivs ≡ None
unfolding frozen_of
frozen_none j steps ivs none =
    ap (λ (d : Drawn (List FrozenDomain)). option_and_then (λ (domains : List FrozenDomain × Random).
    option_map (λ (frames : List FrozenFrame × Random). frozen_with j steps domains.0 frames.0) (frames_from j.memory 0 j.memory.ram domains.1)) d) none

pub frozen_undrawn : (j : model.Joint) (steps : ℕ) (ivs left : Random) (domains : List FrozenDomain) →
    domains_from j 0 j.domains ivs ≡ Some (domains, left) → frames_from j.memory 0 j.memory.ram left ≡ None →
    frozen_of j steps ivs ≡ None
unfolding frozen_of
frozen_undrawn j steps ivs left domains some none =
    ap (λ (d : Drawn (List FrozenDomain)). option_and_then (λ (domains : List FrozenDomain × Random).
    option_map (λ (frames : List FrozenFrame × Random). frozen_with j steps domains.0 frames.0) (frames_from j.memory 0 j.memory.ram domains.1)) d) some
    ∙ ap (λ (d : Drawn (List FrozenFrame)). option_map (λ (frames : List FrozenFrame × Random). frozen_with j steps domains frames.0) d) none

-- what the machine has beside programs and frames
pub record TellsRest (j : model.Joint) (draws refused : ℕ) (harts : List FrozenHart) (disk : List ℕ)
    (recorded : List FrozenPage) : Type 0 where
  pub draws_are : draws ≡ j.memory.ledger.draws
  pub refused_are : refused ≡ j.refused
  pub harts_are : harts ≡ map (hart_with j.memory.marks) j.harts
  pub disk_is : disk ≡ j.disk
  pub recorded_are : recorded ≡ recorded_of j.memory.ledger (pages_of_domains (length j.domains))

abbrev pub frozen_showing : ℕ → ℕ → ℕ → List FrozenDomain → List FrozenHart → List ℕ → List FrozenFrame →
    List FrozenPage → Frozen
frozen_showing steps draws refused domains harts disk frames recorded = record {
  steps = steps;
  draws = draws;
  refused = refused;
  domains = domains;
  harts = harts;
  disk = disk;
  frames = frames;
  recorded = recorded;
}

same_frozen : (j : model.Joint) (steps draws refused : ℕ) (domains : List FrozenDomain) (harts : List FrozenHart)
    (disk : List ℕ) (frames : List FrozenFrame) (recorded : List FrozenPage) → TellsRest j draws refused harts disk recorded →
    frozen_with j steps domains frames ≡ frozen_showing steps draws refused domains harts disk frames recorded
unfolding frozen_with
same_frozen j steps draws refused domains harts disk frames recorded rest = λ i. record {
  steps = steps;
  draws = sym rest.draws_are i;
  refused = sym rest.refused_are i;
  domains = domains;
  harts = sym rest.harts_are i;
  disk = sym rest.disk_is i;
  frames = frames;
  recorded = sym rest.recorded_are i;
}

pub frozen_drawn : (j : model.Joint) (steps : ℕ) (ivs left left' : Random) (domains : List FrozenDomain)
    (frames : List FrozenFrame) (draws refused : ℕ) (harts : List FrozenHart) (disk : List ℕ) (recorded : List FrozenPage) →
    domains_from j 0 j.domains ivs ≡ Some (domains, left) →
    frames_from j.memory 0 j.memory.ram left ≡ Some (frames, left') → TellsRest j draws refused harts disk recorded →
    frozen_of j steps ivs ≡ Some (frozen_showing steps draws refused domains harts disk frames recorded)
unfolding frozen_of
frozen_drawn j steps ivs left left' domains frames draws refused harts disk recorded some drawn rest =
    ap (λ (d : Drawn (List FrozenDomain)). option_and_then (λ (domains : List FrozenDomain × Random).
    option_map (λ (frames : List FrozenFrame × Random). frozen_with j steps domains.0 frames.0) (frames_from j.memory 0 j.memory.ram domains.1)) d) some
    ∙ (ap (λ (d : Drawn (List FrozenFrame)). option_map (λ (frames : List FrozenFrame × Random). frozen_with j steps domains frames.0) d) drawn
    ∙ ap (λ (f : Frozen). Some f) (same_frozen j steps draws refused domains harts disk frames recorded rest))

-- a frame that is not owed is owed nothing
pub unowed : (o : Option PageId) (b : Bool) → (o ≢ None → IsTrue b) → b ≡ false → o ≡ None
unowed None b is low = refl
unowed (Some q) b is low = absurd (let clash : false ≡ true = sym low ∙ is (λ e. cc) in cc)

-- a touch that draws nothing leaves the stream
pub undrawn : (h : FrameRight) (draw : Option (List ℕ × Random)) (stream left : Random) → pager.owed_under h ≡ None →
    left ≡ left_by h draw stream → left ≡ stream
undrawn (Outside r) draw stream left none is = is
undrawn (Clean r) draw stream left none is = is
undrawn (Changed r) draw stream left none is = absurd (let clash : Some r.page ≡ None = none in cc)
undrawn Spent draw stream left none is = is

pub stays_still : (p : PagerState) (f : ℕ) → StaysBut f p p
stays_still p f = record {
  count = refl;
  domains = refl;
  keys = refl;
  rights = λ k other. refl;
  bytes = λ k other. refl;
}

-- The whole machine.

pub tells_all : (joint : Joint) (j : model.Joint) (p : PagerState) (xs : List Domain) → StandsForJoint joint j →
    LendsPager p j.memory → xs ≡ joint.domains.items → TellsDomains p joint.roots joint.ended xs j
tells_all joint j p xs stands lends same = record {
  keys = lends.stands.keys;
  roots_are = stands.roots;
  ended_are = stands.ended;
  domains_are = subst (λ (l : List Domain). AreDomains l j.domains) (sym same) stands.domains;
}

pub freezes_joint : (joint : Joint) (j : model.Joint) (steps : ℕ) (ivs left left' : Random) (p : PagerState)
    (domains : List FrozenDomain) (frames : List FrozenFrame) (harts : List FrozenHart) (disk : List ℕ)
    (recorded : List FrozenPage) (n : ℕ) → StandsForJoint joint j → LendsPager p j.memory →
    domains_from j 0 j.domains ivs ≡ Some (domains, left) → frames_from j.memory 0 j.memory.ram left ≡ Some (frames, left') →
    harts ≡ map (hart_with joint.memory.reservations) joint.harts.items → disk ≡ joint.disk →
    recorded ≡ pages_known p.table (pages_of_domains n) → n ≡ length joint.domains.items →
    Some (frozen_showing steps joint.memory.draws joint.refused domains harts disk frames recorded) ≡ frozen_of j steps ivs
freezes_joint joint j steps ivs left left' p domains frames harts disk recorded n stands lends some drawn harts_are disk_is known count =
    let all : n ≡ length j.domains = count ∙ count_domains joint.domains.items j.domains stands.domains in
    sym (frozen_drawn j steps ivs left left' domains frames joint.memory.draws joint.refused harts disk recorded some drawn (record {
      draws_are = stands.memory.draws;
      refused_are = stands.refused;
      harts_are =
          harts_are
          ∙ (ap (λ (marks : List (Option ℕ)). map (hart_with marks) joint.harts.items) stands.memory.marks
          ∙ ap (map (hart_with j.memory.marks)) stands.harts);
      disk_is = disk_is ∙ stands.disk;
      recorded_are =
          known
          ∙ (sym (recorded_is p lends.wiped j.memory lends.stands (pages_of_domains n))
          ∙ (ap (λ (k : ℕ). recorded_of j.memory.ledger (pages_of_domains k)) all));
    }))

pub same_room : (a b c a' b' c' : ℕ) (room : FrozenRoom) → a ≡ a' → b ≡ b' → c ≡ c' → HasRoom a b c room → HasRoom a' b' c' room
same_room a b c a' b' c' room p q r has =
    subst (λ (x : ℕ). HasRoom x b' c' room) p (subst (λ (x : ℕ). HasRoom a x c' room) q (subst (λ (x : ℕ). HasRoom a b x room) r has))

-- there is room for the machine if there is for its state
pub room_for : (joint : Joint) (j : model.Joint) (harts frames domains : ℕ) (room : FrozenRoom) → StandsForJoint joint j →
    harts ≡ length joint.harts.items → frames ≡ length joint.memory.pager.frames → domains ≡ length joint.domains.items →
    HasRoom (length j.harts) (length j.memory.ram) (length j.domains) room → HasRoom harts frames domains room
room_for joint j harts frames domains room stands a b c has =
    same_room _ _ _ harts frames domains room (ap length (sym stands.harts) ∙ sym a)
    (stands.memory.pager.count ∙ sym b) (sym (count_domains joint.domains.items j.domains stands.domains) ∙ sym c) has
