-- What becomes of a pager as frozen frames and pages are put into it, over plain variables.
use Rattle.std.proofs.Common.{◌≡◌, ◌≢◌, ◌∙◌, ◌<◌, ◌≤◌, ◌+◌, ℕ, zero, suc, Bool, true, false, List, [], ◌∷◌, ◌++◌, length, take, map, slice_get, slice_index_or, slice_set, Option, Some, None, All, refl, ap, sym, subst, arith, add-one, inl, inr, if◌then◌else◌}
use Rattle.std.specs.Prelude.{option_map, AllPairs, IfSome, nat_lt, ◌==◌, ◌&&◌, ◌||◌}
use Rattle.std.proofs.lemmas.Bool.{cases_lt}
use Rattle.std.proofs.lemmas.List.Elements.{All-nil}
use Rattle.std.proofs.lemmas.List.{get_or-set_same, get_or-set_other, get_or_past, length-set}
use Rattle.cloak_base.specs.Pages.{same_page, with_page}
use Rattle.cloak_base.proofs.Pages.{same_page_tells, same_page-other}
use Rattle.cloak_base.specs.declared.names.Meta.{Meta}
use Rattle.cloak_base.specs.declared.names.PageId.{PageId}
use Rattle.protect_meta.specs.Pages.{IsIn}
use Rattle.protect_meta.specs.Table.{domains_of, meta_at}
use Rattle.frozen_state.specs.Limits.{IsOnce}
use Rattle.frozen_state.specs.Ranges.{Rises, owed_page, precedes}
use Rattle.frozen_state.specs.Refusing.{IsWholeFrame}
use Rattle.frozen_state.specs.declared.frozen.FrozenFrame.{FrozenFrame}
use Rattle.frozen_state.specs.declared.frozen.FrozenPage.{FrozenPage}
use Rattle.cloak_model.specs.Ledger.{Keys, key_in}
use Rattle.sha2.specs.Sha256.{sha256}
use Rattle.page_states.specs.Opening.{IsPlain, OpensTo}
use Rattle.cloak_pager.specs.State as pager
use Rattle.cloak_pager.specs.State.{PagerState, IsFresh, bytes_in, held_in, key_for, owed_at, page_of, right_at}
use Rattle.cloak_pager.specs.Turns.{HasBytes, HoldsNow, IsRestored, StaysBut, frame_numbered, holding}
use Rattle.cloak_pager.specs.declared.frame_right.FrameRight.{FrameRight}
use Rattle.cloak_pager.specs.declared.frame_right.FrameRight.TheVariants.{Outside, Changed, Spent}
use Rattle.cloak_pager.proofs.Pages.{same_or_not}
use Rattle.joint_machine.specs.Thawing.{AreFilled, AreThawedFrames, FillsFrames, IsThawedFrame, Restores, meta_among}
use Rattle.std.proofs.lemmas.Option.{slice_get_within}
use Rattle.resource_map.proofs.Lists.{All-slice_get}

-- Places in lists.

pub get_there : {A : Type 0} (xs : List A) (k : ℕ) (d : A) → k < length xs → slice_get xs k ≡ Some (slice_index_or xs k d)
get_there [] k d low = absurd (omega (arith, low))
get_there (y ∷ xs) zero d low = refl
get_there (y ∷ xs) (suc k) d low = get_there xs k d (omega (arith, low))

pub some_there : {A : Type 0} (xs : List A) (k : ℕ) → k < length xs → (x : A) × (slice_get xs k ≡ Some x)
some_there [] k low = absurd (omega (arith, low))
some_there (x ∷ xs) zero low = (x, refl)
some_there (x ∷ xs) (suc k) low = some_there xs k (omega (arith, low))

pub get_is : {A : Type 0} (xs : List A) (k : ℕ) (x d : A) → slice_get xs k ≡ Some x → slice_index_or xs k d ≡ x
get_is [] k x d is = absurd (cc)
get_is (y ∷ xs) zero x d is = cc
get_is (y ∷ xs) (suc k) x d is = get_is xs k x d is

pub get_one : {A : Type 0} (xs : List A) (k : ℕ) (x y : A) → slice_get xs k ≡ Some x → slice_get xs k ≡ Some y → x ≡ y
get_one xs k x y is there = (let e : Some x ≡ Some y = sym is ∙ there in cc)

pub get_taken : {A : Type 0} (xs : List A) (n k : ℕ) (x : A) → slice_get (take n xs) k ≡ Some x → (slice_get xs k ≡ Some x) × (k < n)
get_taken [] zero k x is = absurd (cc)
get_taken [] (suc n) k x is = absurd (cc)
get_taken (y ∷ xs) zero k x is = absurd (cc)
get_taken (y ∷ xs) (suc n) zero x is = (is, omega arith)
get_taken (y ∷ xs) (suc n) (suc k) x is =
    let rest = get_taken xs n k x is in (rest.0, (let low = rest.1 in omega (arith, low)))

pub take_next : {A : Type 0} (xs : List A) (n : ℕ) (x : A) → slice_get xs n ≡ Some x → take (n + 1) xs ≡ take n xs ++ x ∷ []
take_next xs n x is = ap (λ (k : ℕ). take k xs) (add-one n) ∙ next xs n x is
  where
    next : {A : Type 0} (xs : List A) (n : ℕ) (x : A) → slice_get xs n ≡ Some x → take (suc n) xs ≡ take n xs ++ x ∷ []
    next [] n x is = absurd (cc)
    next {A} (y ∷ xs) zero x is = (let e : y ≡ x = cc in ap (λ (z : A). z ∷ []) e)
    next {A} (y ∷ xs) (suc n) x is = ap (λ (l : List A). y ∷ l) (next xs n x is)

-- what holds of one more
pub all_next : {A : Type 0} (P : A → Type 0) (xs : List A) (n : ℕ) (x : A) → slice_get xs n ≡ Some x → All P (take n xs) →
    P x → All P (take (n + 1) xs)
all_next P xs n x is all here = subst (All P) (sym (take_next xs n x is)) (all_push P (take n xs) x all here)
  where
    all_push : {A : Type 0} (P : A → Type 0) (xs : List A) (x : A) → All P xs → P x → All P (xs ++ x ∷ [])
    all_push P [] x all here zero d low = here
    all_push P [] x all here (suc i) d low = absurd (omega (arith, low))
    all_push P (y ∷ xs) x all here zero d low = all 0 d (omega arith)
    all_push P (y ∷ xs) x all here (suc i) d low =
        all_push P xs x (λ k e less. all (suc k) e (omega (arith, less))) here i d (omega (arith, low))

-- Frames that are filled.

pub record FillsBelow (old p : PagerState) (frames : List FrozenFrame) (i : ℕ) : Type 0 where
  pub count : length p.frames ≡ length old.frames
  pub rights : p.rights ≡ old.rights
  pub domains : domains_of p.table ≡ domains_of old.table
  pub keys : p.keys ≡ old.keys
  pub metas : (q : PageId) → meta_at p.table q ≡ meta_at old.table q
  pub bytes : (f : ℕ) (frame : FrozenFrame) → f < i → slice_get frames f ≡ Some frame → bytes_in p f ≡ frame.bytes

pub fills_none : (p : PagerState) (frames : List FrozenFrame) → FillsBelow p p frames 0
fills_none p frames = record {
  count = refl;
  rights = refl;
  domains = refl;
  keys = refl;
  metas = λ q. refl;
  bytes = λ f frame low. absurd (omega (arith, low));
}

pub fills_outside : (old p : PagerState) (frames : List FrozenFrame) (i : ℕ) → FillsBelow old p frames i →
    ((k : ℕ) → held_in old k ≡ None) → (k : ℕ) → held_in p k ≡ None
fills_outside old p frames i so_far none k =
    ap (λ (rights : List FrameRight). page_of (slice_index_or rights k Spent)) so_far.rights ∙ none k

pub fills_next : (old p p' : PagerState) (frames : List FrozenFrame) (i : ℕ) (frame : FrozenFrame) →
    FillsBelow old p frames i → i < length p.frames → slice_get frames i ≡ Some frame → HasBytes p p' i frame.bytes →
    FillsBelow old p' frames (i + 1)
fills_next old p p' frames i frame so_far low is has = record {
  count = ap length has.frames_are ∙ (length-set p.frames i frame.bytes ∙ so_far.count);
  rights = has.rights_are ∙ so_far.rights;
  domains = has.domains_stay ∙ so_far.domains;
  keys = has.keys_stay ∙ so_far.keys;
  metas = λ q. has.metas_are q ∙ so_far.metas q;
  bytes = λ f x below there.
      ap (λ (l : List (List ℕ)). slice_index_or l f []) has.frames_are ∙ elim (same_or_not f i) [
        | inl same ↦
            let own : frame ≡ x =
            get_one frames i frame x is (subst (λ (k : ℕ). slice_get frames k ≡ Some x) same there) in
            ap (λ (k : ℕ). slice_index_or (slice_set p.frames i frame.bytes) k []) same
            ∙ (get_or-set_same p.frames i frame.bytes [] low ∙ ap (λ (y : FrozenFrame). y.bytes) own)
        | inr other ↦
            get_or-set_other p.frames i f frame.bytes [] other ∙ so_far.bytes f x (omega (arith, below, other)) there
      ];
}

pub fills_all : (old p : PagerState) (frames : List FrozenFrame) (i : ℕ) → FillsBelow old p frames i →
    length frames ≤ i → FillsFrames old p frames
fills_all old p frames i so_far past = record {
  count = so_far.count;
  rights = so_far.rights;
  domains = so_far.domains;
  keys = so_far.keys;
  metas = so_far.metas;
  bytes = λ f frame is. so_far.bytes f frame (let low = slice_get_within frames f frame is in omega (arith, low, past)) is;
}

-- Pages that are restored.

-- no page precedes itself
precedes-self : (q : PageId) → precedes q q ≡ false
precedes-self q = none q.domain q.resource q.page
  where
    less : (n : ℕ) → nat_lt n n ≡ false
    less n = grind arith

    either : (a b : Bool) → false || (a && (false || (b && false))) ≡ false
    either true true = refl
    either true false = refl
    either false b = refl

    none : (d r n : ℕ) → nat_lt d d || ((d == d) && (nat_lt r r || ((r == r) && nat_lt n n))) ≡ false
    none d r n =
        ap (λ (b : Bool). b || ((d == d) && (nat_lt r r || ((r == r) && nat_lt n n)))) (less d)
        ∙ (ap (λ (b : Bool). false || ((d == d) && (b || ((r == r) && nat_lt n n)))) (less r)
        ∙ (ap (λ (b : Bool). false || ((d == d) && (false || ((r == r) && b)))) (less n)
        ∙ either (d == d) (r == r)))

pub among_none : (xs : List FrozenPage) (q : PageId) →
    ((k : ℕ) (x : FrozenPage) → slice_get xs k ≡ Some x → x.page ≢ q) → meta_among xs q ≡ None
among_none [] q none = refl
among_none (x ∷ xs) q none =
    ap (λ (b : Bool). if b then Some x.meta else meta_among xs q) (same_page-other q x.page (λ e. none 0 x refl (sym e)))
    ∙ among_none xs q (λ k y is. none (suc k) y is)

pub among_push : (xs : List FrozenPage) (x : FrozenPage) (q : PageId) → meta_among xs x.page ≡ None →
    meta_among (xs ++ x ∷ []) q ≡ with_page (meta_among xs) x.page (Some x.meta) q
among_push [] x q none = refl
among_push (y ∷ xs) x q none = elim (same_page_tells x.page y.page) [
  | inl same ↦ absurd (let no : Some y.meta ≡ None =
      sym (ap (λ (b : Bool). if b then Some y.meta else meta_among xs x.page) same.0) ∙ none in cc)
  | inr other ↦
      let rest : meta_among xs x.page ≡ None =
      sym (ap (λ (b : Bool). if b then Some y.meta else meta_among xs x.page) other.0) ∙ none in
      elim (same_page_tells q y.page) [
        | inl here ↦
            let away : same_page q x.page ≡ false = same_page-other q x.page (λ e. other.1 (sym e ∙ here.1)) in
            ap (λ (b : Bool). if b then Some y.meta else meta_among (xs ++ x ∷ []) q) here.0
            ∙ sym (ap (λ (b : Bool). if b then Some x.meta else (if same_page q y.page then Some y.meta else meta_among xs q)) away
            ∙ ap (λ (b : Bool). if b then Some y.meta else meta_among xs q) here.0)
        | inr there ↦
            ap (λ (b : Bool). if b then Some y.meta else meta_among (xs ++ x ∷ []) q) there.0
            ∙ (among_push xs x q rest
            ∙ ap (λ (o : Option Meta). if same_page q x.page then Some x.meta else o)
            (sym (ap (λ (b : Bool). if b then Some y.meta else meta_among xs q) there.0)))
      ]
]

pub record RestoresBelow (old p : PagerState) (recorded : List FrozenPage) (i : ℕ) : Type 0 where
  pub frames : p.frames ≡ old.frames
  pub rights : p.rights ≡ old.rights
  pub domains : domains_of p.table ≡ domains_of old.table
  pub keys : p.keys ≡ old.keys
  pub metas : (q : PageId) → meta_at p.table q ≡ meta_among (take i recorded) q

pub restores_start : (p : PagerState) (recorded : List FrozenPage) → ((q : PageId) → IsFresh p q) →
    RestoresBelow p p recorded 0
restores_start p recorded fresh = record {
  frames = refl;
  rights = refl;
  domains = refl;
  keys = refl;
  metas = λ q. (fresh q).0;
}

-- the next page is none of those so far
pub next_unknown : (recorded : List FrozenPage) (i : ℕ) (x : FrozenPage) → AllPairs Rises recorded →
    slice_get recorded i ≡ Some x → meta_among (take i recorded) x.page ≡ None
next_unknown recorded i x rises is = among_none (take i recorded) x.page (λ k y there same.
    let at = get_taken recorded i k y there in
    let pair = rises k i x at.1 (slice_get_within recorded i x is) in
    let first : slice_index_or recorded k x ≡ y = get_is recorded k y x at.0 in
    let second : slice_index_or recorded i x ≡ x = get_is recorded i x x is in
    let before : precedes y.page x.page ≡ true =
    subst (λ (z : FrozenPage). precedes y.page z.page ≡ true) second
    (subst (λ (z : FrozenPage). precedes z.page (slice_index_or recorded i x).page ≡ true) first pair) in
    let self : precedes x.page x.page ≡ true = subst (λ (o : PageId). precedes o x.page ≡ true) same before in
    let no : false ≡ true = sym (precedes-self x.page) ∙ self in cc)

pub next_page : (old p : PagerState) (recorded : List FrozenPage) (i : ℕ) (x : FrozenPage) → RestoresBelow old p recorded i →
    All (λ (o : FrozenPage). IsIn (domains_of old.table) o.page) recorded → slice_get recorded i ≡ Some x →
    IsIn (domains_of p.table) x.page
next_page old p recorded i x so_far pages there =
    subst (λ (n : ℕ). IsIn n x.page) (sym so_far.domains)
    (All-slice_get (λ (o : FrozenPage). IsIn (domains_of old.table) o.page) recorded i x pages there)

pub next_fresh : (old p : PagerState) (recorded : List FrozenPage) (i : ℕ) (x : FrozenPage) → RestoresBelow old p recorded i →
    AllPairs Rises recorded → ((q : PageId) → IsFresh old q) → slice_get recorded i ≡ Some x → IsFresh p x.page
next_fresh old p recorded i x so_far rises fresh is = (
  so_far.metas x.page ∙ next_unknown recorded i x rises is,
  λ k held. (fresh x.page).1 k (sym (ap (λ (rights : List FrameRight). page_of (slice_index_or rights k Spent)) so_far.rights) ∙ held),
)

pub restores_next : (old p p' : PagerState) (recorded : List FrozenPage) (i : ℕ) (x : FrozenPage) →
    RestoresBelow old p recorded i → AllPairs Rises recorded → slice_get recorded i ≡ Some x →
    IsRestored p p' x.page x.meta → RestoresBelow old p' recorded (i + 1)
restores_next old p p' recorded i x so_far rises is restored = record {
  frames = restored.frames_are ∙ so_far.frames;
  rights = restored.rights_are ∙ so_far.rights;
  domains = restored.domains_stay ∙ so_far.domains;
  keys = restored.keys_stay ∙ so_far.keys;
  metas = λ q.
      restored.metas_are q
      ∙ (ap (λ (o : Option Meta). if same_page q x.page then Some x.meta else o) (so_far.metas q)
      ∙ (sym (among_push (take i recorded) x q (next_unknown recorded i x rises is))
      ∙ ap (λ (l : List FrozenPage). meta_among l q) (sym (take_next recorded i x is))));
}

pub restores_all : (old p : PagerState) (recorded : List FrozenPage) (i : ℕ) → RestoresBelow old p recorded i →
    take i recorded ≡ recorded → Restores old p recorded
restores_all old p recorded i so_far all = record {
  frames = so_far.frames;
  rights = so_far.rights;
  domains = so_far.domains;
  keys = so_far.keys;
  metas = λ q. so_far.metas q ∙ ap (λ (l : List FrozenPage). meta_among l q) all;
}

-- Frames that are thawed.

-- the page that a frame holds once it is thawed is the one that it is owed
pub thawed_holds : (p : PagerState) (f : ℕ) (frame : FrozenFrame) → IsThawedFrame p f frame frame.owed →
    held_in p f ≡ owed_page frame
thawed_holds p f frame thawed = by_owed frame.owed thawed
  where
    by_owed : (owed : Option (PageId × Meta)) → IsThawedFrame p f frame owed →
        held_in p f ≡ option_map (λ (o : PageId × Meta). o.0) owed
    by_owed None thawed = ap page_of thawed.0
    by_owed (Some owed) thawed = ap page_of thawed.0

-- it is thawed as well in a pager that has the same there
thawed_as : (p p' : PagerState) (f : ℕ) (frame : FrozenFrame) (owed : Option (PageId × Meta)) → p'.keys ≡ p.keys →
    right_at p' f ≡ right_at p f → bytes_in p' f ≡ bytes_in p f → IsThawedFrame p f frame owed →
    IsThawedFrame p' f frame owed
thawed_as p p' f frame None keys right bytes thawed = (right ∙ thawed.0, bytes ∙ thawed.1)
thawed_as p p' f frame (Some owed) keys right bytes thawed = (
  right ∙ thawed.0,
  subst (λ (b : List ℕ). IsPlain (key_in p'.keys owed.0) owed.1.iv frame.bytes b) (sym bytes)
      (subst (λ (k : Keys). IsPlain (key_in k owed.0) owed.1.iv frame.bytes (bytes_in p f)) (sym keys) thawed.1),
)

pub record ThawsBelow (old p : PagerState) (frames : List FrozenFrame) (i : ℕ) : Type 0 where
  pub count : length p.frames ≡ length old.frames
  pub domains : domains_of p.table ≡ domains_of old.table
  pub keys : p.keys ≡ old.keys
  pub metas : (q : PageId) → meta_at p.table q ≡ meta_at old.table q
  pub below : (f : ℕ) (frame : FrozenFrame) → f < i → slice_get frames f ≡ Some frame → IsThawedFrame p f frame frame.owed
  pub rights : (f : ℕ) → i ≤ f → right_at p f ≡ right_at old f
  pub bytes : (f : ℕ) → i ≤ f → bytes_in p f ≡ bytes_in old f
  pub whole : All IsWholeFrame (take i frames)

pub thaws_none : (p : PagerState) (frames : List FrozenFrame) → ThawsBelow p p frames 0
thaws_none p frames = record {
  count = refl;
  domains = refl;
  keys = refl;
  metas = λ q. refl;
  below = λ f frame low. absurd (omega (arith, low));
  rights = λ f high. refl;
  bytes = λ f high. refl;
  whole = All-nil IsWholeFrame;
}

pub next_outside : (old p : PagerState) (frames : List FrozenFrame) (i : ℕ) → ThawsBelow old p frames i →
    AreFilled old frames → i < length frames → right_at p i ≡ Outside (frame_numbered i)
next_outside old p frames i so_far filled low = so_far.rights i (omega arith) ∙ filled.rights i low

pub next_page_if : (old p : PagerState) (frames : List FrozenFrame) (i : ℕ) (frame : FrozenFrame) → ThawsBelow old p frames i →
    All (λ (o : FrozenFrame). IfSome (owed_page o) (IsIn (domains_of old.table))) frames → slice_get frames i ≡ Some frame →
    IfSome (owed_page frame) (IsIn (domains_of p.table))
next_page_if old p frames i frame so_far pages there =
    subst (λ (n : ℕ). IfSome (owed_page frame) (IsIn n)) (sym so_far.domains)
    (All-slice_get (λ (o : FrozenFrame). IfSome (owed_page o) (IsIn (domains_of old.table))) frames i frame pages there)

pub next_bytes : (old p : PagerState) (frames : List FrozenFrame) (i : ℕ) (frame : FrozenFrame) → ThawsBelow old p frames i →
    AreFilled old frames → slice_get frames i ≡ Some frame → bytes_in p i ≡ frame.bytes
next_bytes old p frames i frame so_far filled is = so_far.bytes i (omega arith) ∙ filled.bytes i frame is

owed_place : (frames : List FrozenFrame) (k : ℕ) (frame : FrozenFrame) → slice_get frames k ≡ Some frame →
    slice_index_or (map owed_page frames) k None ≡ owed_page frame
owed_place [] k frame is = absurd (cc)
owed_place (y ∷ frames) zero frame is = ap owed_page (let e : y ≡ frame = cc in e)
owed_place (y ∷ frames) (suc k) frame is = owed_place frames k frame is

-- no frame holds the page that the next one is owed
pub next_nowhere : (old p : PagerState) (frames : List FrozenFrame) (i : ℕ) (frame : FrozenFrame) (q : PageId) →
    ThawsBelow old p frames i → AreFilled old frames → IsOnce (map owed_page frames) → slice_get frames i ≡ Some frame → owed_page frame ≡ Some q →
    (k : ℕ) → held_in p k ≢ Some q
next_nowhere old p frames i frame q so_far filled once is owed k held = elim (cases_lt k i) [
  | inl below ↦
      let none : FrozenFrame = frame in
      let there = get_there frames k none (let low = slice_get_within frames i frame is in omega (arith, low, below)) in
      let x = slice_index_or frames k none in
      let holds = thawed_holds p k x (so_far.below k x below there) in
      let same : k ≡ i =
      once k i q (owed_place frames k x there ∙ (sym holds ∙ held)) (owed_place frames i frame is ∙ owed) in
      absurd (omega (arith, below, same))
  | inr above ↦ elim (cases_lt k (length frames)) [
    | inl low ↦
        let no : None ≡ Some q = sym (ap page_of (so_far.rights k above ∙ filled.rights k low)) ∙ held in
        absurd (cc)
    | inr past ↦
        let spent : right_at old k ≡ Spent =
        get_or_past old.rights k Spent (let count = filled.count in omega (arith, past, count)) in
        let no : None ≡ Some q = sym (ap page_of (so_far.rights k above ∙ spent)) ∙ held in
        absurd (cc)
  ]
]

pub thaws_next : (old p p' : PagerState) (frames : List FrozenFrame) (i : ℕ) (frame : FrozenFrame) →
    ThawsBelow old p frames i → slice_get frames i ≡ Some frame → StaysBut i p p' →
    ((q : PageId) → meta_at p'.table q ≡ meta_at p.table q) → IsThawedFrame p' i frame frame.owed → IsWholeFrame frame →
    ThawsBelow old p' frames (i + 1)
thaws_next old p p' frames i frame so_far is stays metas thawed whole = record {
  count = stays.count ∙ so_far.count;
  domains = stays.domains ∙ so_far.domains;
  keys = stays.keys ∙ so_far.keys;
  metas = λ q. metas q ∙ so_far.metas q;
  below = λ f x low there. elim (same_or_not f i) [
    | inl same ↦
        let own : frame ≡ x =
        get_one frames i frame x is (subst (λ (k : ℕ). slice_get frames k ≡ Some x) same there) in
        subst (λ (k : ℕ). IsThawedFrame p' k x x.owed) (sym same)
        (subst (λ (y : FrozenFrame). IsThawedFrame p' i y y.owed) own thawed)
    | inr other ↦
        thawed_as p p' f x x.owed stays.keys (stays.rights f other) (stays.bytes f other)
        (so_far.below f x (omega (arith, low, other)) there)
  ];
  rights = λ f high. stays.rights f (λ e. absurd (omega (arith, high, e))) ∙ so_far.rights f (omega (arith, high));
  bytes = λ f high. stays.bytes f (λ e. absurd (omega (arith, high, e))) ∙ so_far.bytes f (omega (arith, high));
  whole = all_next IsWholeFrame frames i frame is so_far.whole whole;
}

pub thaws_all : (old p : PagerState) (frames : List FrozenFrame) (i : ℕ) → ThawsBelow old p frames i → length frames ≤ i →
    AreThawedFrames old p frames
thaws_all old p frames i so_far past = record {
  count = so_far.count;
  domains = so_far.domains;
  keys = so_far.keys;
  metas = so_far.metas;
  each = λ f frame is. so_far.below f frame (let low = slice_get_within frames f frame is in omega (arith, low, past)) is;
}

-- One frame.

pub frame_quiet : (p : PagerState) (f : ℕ) (frame : FrozenFrame) → frame.owed ≡ None →
    right_at p f ≡ Outside (frame_numbered f) → bytes_in p f ≡ frame.bytes → IsThawedFrame p f frame frame.owed
frame_quiet p f frame none right bytes = subst (IsThawedFrame p f frame) (sym none) (right, bytes)

right_put : (rights : List FrameRight) (f : ℕ) (q : PageId) (h : FrameRight) → pager.owed_under (slice_index_or (slice_set rights f h) f Spent) ≡ Some q →
    slice_index_or (slice_set rights f h) f Spent ≡ h
right_put rights f q h owed = elim (cases_lt f (length rights)) [
  | inl low ↦ get_or-set_same rights f h Spent low
  | inr past ↦
      let spent : slice_index_or (slice_set rights f h) f Spent ≡ Spent =
      get_or_past (slice_set rights f h) f Spent (let same = length-set rights f h in omega (arith, past, same)) in
      absurd (let no : None ≡ Some q = sym (ap pager.owed_under spent) ∙ owed in cc)
]

pub frame_opened : (p p' : PagerState) (f : ℕ) (frame : FrozenFrame) (q : PageId) (meta : Meta) →
    frame.owed ≡ Some (q, meta) → OpensTo (key_for p q) meta.iv (bytes_in p f) (HoldsNow p p' q f true) →
    owed_at p' f ≡ Some q → bytes_in p f ≡ frame.bytes → f < length p.frames → IsThawedFrame p' f frame frame.owed
frame_opened p p' f frame q meta is opens owed shown low =
    let turns = opens.2 in
    let right : right_at p' f ≡ Changed (holding f q) =
    ap (λ (l : List FrameRight). slice_index_or l f Spent) turns.rights_are
    ∙ right_put p.rights f q (Changed (holding f q))
    (ap (λ (l : List FrameRight). pager.owed_under (slice_index_or l f Spent)) (sym turns.rights_are) ∙ owed) in
    let bytes : bytes_in p' f ≡ opens.0 =
    ap (λ (l : List (List ℕ)). slice_index_or l f []) turns.frames_are ∙ get_or-set_same p.frames f opens.0 [] low in
    subst (IsThawedFrame p' f frame) (sym is) (
      right,
      subst (λ (b : List ℕ). IsPlain (key_in p'.keys q) meta.iv frame.bytes b) (sym bytes)
          (subst (λ (s : List ℕ). IsPlain (key_in p'.keys q) meta.iv s opens.0) shown
          (subst (λ (k : Keys). IsPlain (key_in k q) meta.iv (bytes_in p f) opens.0) (sym turns.keys_stay) opens.1)),
    )

pub frame_whole : (frame : FrozenFrame) (q : PageId) (meta : Meta) → frame.owed ≡ Some (q, meta) →
    sha256 frame.bytes ≡ meta.digest → IsWholeFrame frame
frame_whole frame q meta is same =
    subst (λ (o : Option (PageId × Meta)). IfSome o (λ owed. sha256 frame.bytes ≡ owed.1.digest)) (sym is) same

pub frame_changed : (frame : FrozenFrame) (q : PageId) (meta : Meta) → frame.owed ≡ Some (q, meta) →
    sha256 frame.bytes ≢ meta.digest → IsWholeFrame frame → ⊥
frame_changed frame q meta is other whole =
    other (subst (λ (o : Option (PageId × Meta)). IfSome o (λ owed. sha256 frame.bytes ≡ owed.1.digest)) is whole)

pub frame_unowed : (frame : FrozenFrame) → frame.owed ≡ None → IsWholeFrame frame
frame_unowed frame none =
    subst (λ (o : Option (PageId × Meta)). IfSome o (λ owed. sha256 frame.bytes ≡ owed.1.digest)) (sym none) tt

-- what holds of the page that a frame is owed
pub owed_holds : (frame : FrozenFrame) (q : PageId) (meta : Meta) (P : PageId → Type 0) → frame.owed ≡ Some (q, meta) →
    IfSome (owed_page frame) P → P q
owed_holds frame q meta P is holds =
    subst (λ (o : Option (PageId × Meta)). IfSome (option_map (λ (x : PageId × Meta). x.0) o) P) is holds

pub metas_stay : (p p' : PagerState) (f : ℕ) (q : PageId) (iv : List ℕ) (D : Type 0) (b : Bool) →
    (b ≡ true → OpensTo (key_for p q) iv (bytes_in p f) (HoldsNow p p' q f true)) → (b ≡ false → D × (p' ≡ p)) →
    (o : PageId) → meta_at p'.table o ≡ meta_at p.table o
metas_stay p p' f q iv D true opened refused o = (opened refl).2.metas_are o
metas_stay p p' f q iv D false opened refused o = ap (λ (x : PagerState). meta_at x.table o) (refused refl).1

pub next_nowhere_if : (old p : PagerState) (frames : List FrozenFrame) (i : ℕ) (frame : FrozenFrame) →
    ThawsBelow old p frames i → AreFilled old frames → IsOnce (map owed_page frames) → slice_get frames i ≡ Some frame →
    IfSome (owed_page frame) (λ (q : PageId). (k : ℕ) → held_in p k ≢ Some q)
next_nowhere_if old p frames i frame so_far filled once is = by_owed (owed_page frame) refl
  where
    by_owed : (o : Option PageId) → owed_page frame ≡ o → IfSome o (λ (q : PageId). (k : ℕ) → held_in p k ≢ Some q)
    by_owed None owed = tt
    by_owed (Some q) owed = next_nowhere old p frames i frame q so_far filled once is owed
