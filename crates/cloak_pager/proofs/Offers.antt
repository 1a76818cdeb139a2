-- What an offer does, over plain variables.
use Rattle.std.proofs.Common.{◌≡◌, ◌≢◌, ◌<◌, ◌⊎◌, inl, inr, ℕ, Bool, true, false, not, ◌&&◌, ◌||◌, List, [], Option}
use Rattle.std.proofs.Common.{None, Some, length, get_or, refl, ap, sym, ◌∙◌, subst, if◌then◌else◌}
use Rattle.std.proofs.lemmas.List.{get_or-set_same}
use Rattle.std.proofs.lemmas.List.Quantifiers.{position-Some}
use Rattle.std.specs.Str.{bytes_eq}
use Rattle.std.proofs.lemmas.Slice.Eq.{bytes_eq-Decides}
use Rattle.std.proofs.lemmas.Bool.{false_from_ne_true}
use Rattle.sha2.specs.Sha256.{sha256}
use Rattle.cloak_base.specs.declared.names.Frame.{Frame}
use Rattle.cloak_base.specs.declared.names.PageId.{PageId}
use Rattle.cloak_base.specs.Random.{Random}
use Rattle.cloak_base.specs.Pages.{zero_page}
use Rattle.cloak_model.specs.Chain.{cbc}
use Rattle.cloak_model.specs.Cloaking.{CloakedMemory, AfterSettling, AfterOffer, settle, settle_frame_if, offer, owes, owing_frame, compared}
use Rattle.cloak_model.specs.Cloaking.{unless_missed, taken, is_clash, with_comparison, owed_in, with_owed}
use Rattle.frame_store.specs.Rights.{Holding}
use Rattle.page_states.specs.Opening.{IsPlain}
use Rattle.cloak_base.specs.declared.names.Meta.{Meta}
use Rattle.protect_meta.specs.Table.{meta_at, domains_of}
use Rattle.protect_meta.specs.Pages.{IsIn}
use Rattle.cloak_pager.specs.State.{PagerState, IsWholePager, Names, key_for}
use Rattle.cloak_pager.specs.State.{page_of, owed_under, right_at, bytes_in, held_in, owed_at}
use Rattle.cloak_pager.specs.Turns.{holding, HoldsNow, OfferTurns, OfferedTurns, end_of_offer, shown_by_digest}
use Rattle.cloak_pager.specs.Turns.{ShownTurns}
use Rattle.cloak_pager.proofs.Turned.{same_digest, other_digest}
use Rattle.cloak_pager.specs.Relation.{StandsForMemory, FrameStands, PageStands, HoldsClean, IsRecorded, IsUnowed}
use Rattle.cloak_pager.specs.Asking.{ToldCall, FollowsCallFrom, FollowsCallUnclashed, after_offer, answer_of}
use Rattle.cloak_pager.specs.declared.frame_right.FrameRight.{FrameRight}
use Rattle.cloak_pager.specs.declared.frame_right.FrameRight.TheVariants.{Outside, Clean, Changed, Spent}
use Rattle.cloak_pager.specs.declared.offering.Offered.{Offered}
use Rattle.cloak_pager.specs.declared.offering.Offered.TheVariants.{Ready, Mismatch}
use Rattle.cloak_base.proofs.Pages.{same_page-self, same_page-decides}
use Rattle.cloak_pager.proofs.Keeping.{HasRight, named_as, whole_turned}
use Rattle.cloak_pager.proofs.Stands.{stands_turned, owed_by_right, owed_held, page_stays, vector_stays}
use Rattle.cloak_pager.proofs.Touches.{page_is, owed_nothing}
use Rattle.cloak_model.proofs.Settling.{settle_unowed}

-- The pager stands for a memory that differs in what the relation does not speak of.
pub stands_same : (p : PagerState) (w : PageId → Bool) (m m' : CloakedMemory) → StandsForMemory p w m → m'.ram ≡ m.ram →
    m'.plain ≡ m.plain → m'.ledger.keys ≡ m.ledger.keys → m'.ledger.stream ≡ m.ledger.stream →
    m'.ledger.recorded ≡ m.ledger.recorded → m'.ledger.iv ≡ m.ledger.iv → m'.ledger.owed ≡ m.ledger.owed →
    StandsForMemory p w m'
stands_same p w m m' s ram plain keys stream recorded vectors owed =
    let here : StandsForMemory p w mixed = record {
      whole = s.whole;
      keys = s.keys;
      chained = s.chained;
      count = s.count;
      frames = λ f inside. frame_same f (right_at p f) (s.frames f inside);
      owed = s.owed;
      pages = λ q. page_same q (meta_at p.table q) (s.pages q);
      vectors = s.vectors;
      plain = s.plain;
      drained = s.drained;
    } in
    let same : mixed ≡ m' = λ i. record {
      ram = sym ram i;
      plain = sym plain i;
      ledger =
          record m'.ledger {
            keys = sym keys i;
            stream = sym stream i;
            recorded = sym recorded i;
            iv = sym vectors i;
            owed = sym owed i;
          };
      marks = m'.marks;
    } in
    subst (λ (x : CloakedMemory). StandsForMemory p w x) same here
  where
    -- what the relation speaks of by the one memory, and the rest by the other
    mixed : CloakedMemory
    mixed = record m {
      ledger = record m'.ledger {
        keys = m.ledger.keys;
        stream = m.ledger.stream;
        recorded = m.ledger.recorded;
        iv = m.ledger.iv;
        owed = m.ledger.owed;
      };
      marks = m'.marks;
    }

    frame_same : (f : ℕ) (h : FrameRight) → FrameStands p w m f h → FrameStands p w mixed f h
    frame_same f (Outside r) s = s
    frame_same f (Clean r) s = record { newest = s.newest; shown = s.shown; long = s.long; sealed = s.sealed }
    frame_same f (Changed r) s = s
    frame_same f Spent s = s

    page_same : (q : PageId) (t : Option Meta) → PageStands (w q) m q t → PageStands (w q) mixed q t
    page_same q None s = s
    page_same q (Some t) s = record { bytes = s.bytes; is = s.is; digest = s.digest; sealed = s.sealed }

-- a page that no frame holds is owed by none
pub unowed_nowhere : (p : PagerState) (w : PageId → Bool) (m : CloakedMemory) → StandsForMemory p w m → (q : PageId) →
    ((k : ℕ) → held_in p k ≢ Some q) → IsUnowed m q
unowed_nowhere p w m s q nowhere f e = nowhere f (owed_held (right_at p f) q (sym (owed_by_right p w m s f) ∙ e))

-- nor is one that a frame holds unchanged
pub unowed_clean : (p : PagerState) (w : PageId → Bool) (m : CloakedMemory) → StandsForMemory p w m →
    (g : ℕ) (q : PageId) → held_in p g ≡ Some q → owed_at p g ≡ None → IsUnowed m q
unowed_clean p w m s g q held none f e =
    let owes : owed_at p f ≡ Some q = sym (owed_by_right p w m s f) ∙ e in
    let one : f ≡ g = s.whole.one_home f g q (owed_held (right_at p f) q owes) held in
    let here : owed_at p g ≡ Some q = subst (λ (x : ℕ). owed_at p x ≡ Some q) one owes in
    (let no : None ≡ Some q = sym none ∙ here in cc)

-- no frame is found that is owed it
pub none_owing : (m : CloakedMemory) (q : PageId) → IsUnowed m q → owing_frame m q ≡ None
none_owing m q free = by_value (owing_frame m q) refl
  where
    owing : (o : Option PageId) → owes q o ≡ true → o ≡ Some q
    owing None e = absurd (let no : false ≡ true = e in cc)
    owing (Some x) e = ap (λ (y : PageId). Some y) ((same_page-decides x q).0 e)

    by_value : (o : Option ℕ) → owing_frame m q ≡ o → o ≡ None
    by_value None e = refl
    by_value (Some i) e = absurd (free i (owing (owed_in m i) (position-Some (owes q) m.ledger.owed i None e).1))

-- Frame g holds page q as changed, and is owed it.
pub stands_changed : (p p' : PagerState) (w : PageId → Bool) (m : CloakedMemory) (g : ℕ) (q : PageId) (bytes : List ℕ) →
    StandsForMemory p w m → IsWholePager p' → g < length p.frames →
    ((o : PageId) → held_in p g ≡ Some o → Some q ≡ Some o) → ((k : ℕ) → held_in p k ≡ Some q → k ≡ g) → IsUnowed m q →
    (w q ≡ false → bytes ≡ m.plain q) → HoldsNow p p' q g true bytes → StandsForMemory p' w (with_owed g (Some q) m)
stands_changed p p' w m g q bytes s whole inside held alone unowed newest t =
    let m' : CloakedMemory = with_owed g (Some q) m in
    stands_turned p p' w w m m' g (Changed (holding g q)) bytes (Some q) s (record {
      whole = whole;
      frames = t.frames_are;
      rights = t.rights_are;
      keys = t.keys_stay;
      keys_same = refl;
      ram = refl;
      ram_elsewhere = λ k n. refl;
      owed = refl;
      plain = λ o n. refl;
      recorded = λ o n. refl;
      vectors = λ o n. refl;
      metas = λ o n. t.metas_are o;
      lost = λ o n. refl;
      held = held;
      alone = λ k o n e there. n (alone k (there ∙ sym e));
      here = λ within kept. rw t.frames_are (get_or-set_same p.frames g bytes [] inside ∙ newest kept);
      page =
          page_is p' w m' q (meta_at p.table q) (t.metas_are q)
          (page_stays (w q) (w q) m m' q (meta_at p.table q) (meta_at p.table q) refl refl refl refl refl
          (λ free. unowed) (s.pages q));
      vector = λ o e. vector_stays p p' w m m' o s (t.metas_are o) refl;
      newest = λ o e kept. s.plain o kept;
      drained = s.drained;
    })

-- Frame g holds page q unchanged.
pub stands_clean : (p p' : PagerState) (w : PageId → Bool) (m : CloakedMemory) (g : ℕ) (q : PageId) (bytes : List ℕ) →
    StandsForMemory p w m → IsWholePager p' → g < length p.frames → held_in p g ≡ None →
    ((k : ℕ) → held_in p k ≢ Some q) → (HoldsClean p' (w q) m g q) → HoldsNow p p' q g false bytes →
    StandsForMemory p' w m
stands_clean p p' w m g q bytes s whole inside outside nowhere here t =
    let none : owed_at p g ≡ None = unheld_unowed (right_at p g) outside in
    stands_turned p p' w w m m g (Clean (holding g q)) bytes (Some q) s (record {
      whole = whole;
      frames = t.frames_are;
      rights = t.rights_are;
      keys = t.keys_stay;
      keys_same = refl;
      ram = refl;
      ram_elsewhere = λ k n. refl;
      owed = owed_nothing p w m s g none;
      plain = λ o n. refl;
      recorded = λ o n. refl;
      vectors = λ o n. refl;
      metas = λ o n. t.metas_are o;
      lost = λ o n. refl;
      held = λ o e. absurd (let no : None ≡ Some o = sym outside ∙ e in cc);
      alone = λ k o n e there. nowhere k (there ∙ sym e);
      here = λ within. here;
      page = page_is p' w m q (meta_at p.table q) (t.metas_are q) (s.pages q);
      vector = λ o e. vector_stays p p' w m m o s (t.metas_are o) refl;
      newest = λ o e kept. s.plain o kept;
      drained = s.drained;
    })
  where
    unheld_unowed : (h : FrameRight) → page_of h ≡ None → owed_under h ≡ None
    unheld_unowed (Outside r) e = refl
    unheld_unowed (Clean r) e = refl
    unheld_unowed (Changed r) e = e
    unheld_unowed Spent e = refl

-- What an offer results in.

pub offer_at_once : (q : PageId) (g : ℕ) (write : Bool) (m : CloakedMemory) → owed_in m g ≡ Some q →
    offer q g write m ≡ record { memory = m; ciphers = []; granted = true }
unfolding offer
offer_at_once q g write m e =
    let owing : owes q (owed_in m g) ≡ true = rw e (same_page-self q) in
    ap (λ (b : Bool).
    if b then record { memory = m; ciphers = []; granted = true } else unless_missed (settle g m)
    (λ m'. unless_missed (settle_frame_if (owing_frame m' q) m')
    (λ m''. compared q g write (m''.ledger.recorded q) m''))) owing

pub offer_settled : (q : PageId) (g : ℕ) (write : Bool) (m : CloakedMemory) → owed_in m g ≡ None →
    owing_frame m q ≡ None → offer q g write m ≡ compared q g write (m.ledger.recorded q) m
unfolding offer unless_missed
offer_settled q g write m none nobody =
    let later : CloakedMemory → AfterOffer =
    λ m'. unless_missed (settle_frame_if (owing_frame m' q) m')
    (λ m''. compared q g write (m''.ledger.recorded q) m'') in
    let owing : owes q (owed_in m g) ≡ false = rw none refl in
    let first : offer q g write m ≡ unless_missed (settle g m) later =
    ap (λ (b : Bool).
    if b then record { memory = m; ciphers = []; granted = true } else unless_missed (settle g m) later) owing in
    let second : unless_missed (settle g m) later ≡ later m =
    ap (λ (x : AfterSettling). unless_missed x later) (settle_unowed g m none) in
    let third : later m ≡ compared q g write (m.ledger.recorded q) m =
    ap (λ (x : Option ℕ).
    unless_missed (settle_frame_if x m) (λ m''. compared q g write (m''.ledger.recorded q) m'')) nobody in
    first ∙ (second ∙ third)

pub compared_fresh : (q : PageId) (g : ℕ) (write : Bool) (m : CloakedMemory) (o : Option (List ℕ)) → o ≡ None →
    compared q g write o m ≡ record { memory = with_owed g (Some q) m; ciphers = []; granted = true }
unfolding compared
compared_fresh q g write m o e = ap (λ (x : Option (List ℕ)). compared q g write x m) e

pub compared_equal : (q : PageId) (g : ℕ) (write : Bool) (m : CloakedMemory) (o : Option (List ℕ)) (c : List ℕ) →
    o ≡ Some c → bytes_eq (get_or m.ram g []) c ≡ true →
    compared q g write o m
    ≡ record { memory = taken q g write (with_comparison (get_or m.ram g []) c m); ciphers = []; granted = true }
unfolding compared
compared_equal q g write m o c e equal =
    let m' : CloakedMemory = with_comparison (get_or m.ram g []) c m in
    ap (λ (x : Option (List ℕ)). compared q g write x m) e
    ∙ ap (λ (b : Bool).
    if b then record { memory = taken q g write m'; ciphers = []; granted = true } else record {
      memory = m';
      ciphers = [];
      granted = false;
    }) equal

pub compared_other : (q : PageId) (g : ℕ) (write : Bool) (m : CloakedMemory) (o : Option (List ℕ)) (c : List ℕ) →
    o ≡ Some c → bytes_eq (get_or m.ram g []) c ≡ false →
    compared q g write o m ≡ record { memory = with_comparison (get_or m.ram g []) c m; ciphers = []; granted = false }
unfolding compared
compared_other q g write m o c e differ =
    let m' : CloakedMemory = with_comparison (get_or m.ram g []) c m in
    ap (λ (x : Option (List ℕ)). compared q g write x m) e
    ∙ ap (λ (b : Bool).
    if b then record { memory = taken q g write m'; ciphers = []; granted = true } else record {
      memory = m';
      ciphers = [];
      granted = false;
    }) differ

-- equal digests of different bytes set the mark
pub clashes : (marked : Bool) (a b : List ℕ) → (marked || is_clash a b) ≡ false →
    bytes_eq (sha256 a) (sha256 b) ≡ true → bytes_eq a b ≡ true
clashes marked a b unmarked equal =
    by_value marked (bytes_eq a b) (subst (λ (x : Bool). (marked || (x && not (bytes_eq a b))) ≡ false) equal unmarked)
  where
    by_value : (marked same : Bool) → (marked || (true && not same)) ≡ false → same ≡ true
    by_value marked true e = refl
    by_value true false e = absurd (let no : true ≡ false = e in cc)
    by_value false false e = absurd (let no : true ≡ false = e in cc)

pub equal_bytes : (a b : List ℕ) → bytes_eq a b ≡ true → a ≡ b
equal_bytes a b e = (bytes_eq-Decides a b).0 e

pub bytes_equal : (a b : List ℕ) → a ≡ b → bytes_eq a b ≡ true
bytes_equal a b e = (bytes_eq-Decides a b).1 e

-- a pager is whole after a frame took a page, or changed the one that it held
pub whole_taken : (p p' : PagerState) (g : ℕ) (q : PageId) (write : Bool) (plain : List ℕ) → IsWholePager p →
    g < length p.frames → IsIn (domains_of p.table) q → ((k : ℕ) → held_in p k ≡ Some q → k ≡ g) →
    meta_at p.table q ≢ None ⊎ (write ≡ true) → HoldsNow p p' q g write plain → IsWholePager p'
whole_taken p p' g q true plain w inside page alone shown t =
    whole_turned p p' g (Changed (holding g q)) plain (meta_at p.table) w t inside (refl, rw t.domains_stay page)
    (λ o n. n) (λ k o n e there. n (alone k (there ∙ sym e)))
whole_taken p p' g q false plain w inside page alone shown t =
    let there : meta_at p.table q ≢ None =
    elim shown [ inl n ↦ n | inr e ↦ absurd (let no : false ≡ true = e in cc) ] in
    whole_turned p p' g (Clean (holding g q)) plain (meta_at p.table) w t inside
    (refl, rw t.domains_stay page, rw (t.metas_are q) there) (λ o n. n) (λ k o n e there. n (alone k (there ∙ sym e)))

-- the bytes that an outside frame was opened to are the page's newest
pub opened_newest : (p : PagerState) (w : PageId → Bool) (m : CloakedMemory) (g : ℕ) (q : PageId) (t : Meta)
    (plain : List ℕ) →
    StandsForMemory p w m → IsUnowed m q → meta_at p.table q ≡ Some t → m.ledger.recorded q ≡ Some (bytes_in p g) →
    IsPlain (key_for p q) t.iv (bytes_in p g) plain → w q ≡ false → plain ≡ m.plain q
opened_newest p w m g q t plain s free shown recorded opens kept =
    let T : Option Meta → Type 0 = λ x. PageStands (w q) m q x in
    let is : IsRecorded (w q) m q t = subst T shown (s.pages q) in
    let same : is.bytes ≡ bytes_in p g = (let e = sym is.is ∙ recorded in cc) in
    let back : cbc (key_for p q) t.iv (m.plain q) ≡ bytes_in p g = rw (← s.keys) (sym (is.sealed kept free) ∙ same) in
    opens.only_one (m.plain q) (s.plain q kept) back

-- An outside frame that shows what was last shown of the page is opened.
pub stands_opened : (p p' : PagerState) (w : PageId → Bool) (m : CloakedMemory) (g : ℕ) (q : PageId) (write : Bool)
    (t : Meta) (plain : List ℕ) →
    StandsForMemory p w m → IsWholePager p' → g < length p.frames → held_in p g ≡ None →
    ((k : ℕ) → held_in p k ≢ Some q) → meta_at p.table q ≡ Some t → get_or m.ram g [] ≡ bytes_in p g →
    m.ledger.recorded q ≡ Some (bytes_in p g) → IsPlain (key_for p q) t.iv (bytes_in p g) plain →
    HoldsNow p p' q g write plain → StandsForMemory p' w (taken q g write m)
stands_opened p p' w m g q true t plain s whole inside outside nowhere shown sees recorded opens turns =
    let free : IsUnowed m q = unowed_nowhere p w m s q nowhere in
    stands_changed p p' w m g q plain s whole inside
    (λ o e. absurd (let no : None ≡ Some o = sym outside ∙ e in cc))
    (λ k e. absurd (nowhere k e)) free
    (opened_newest p w m g q t plain s free shown recorded opens) turns
stands_opened p p' w m g q false t plain s whole inside outside nowhere shown sees recorded opens turns =
    let free : IsUnowed m q = unowed_nowhere p w m s q nowhere in
    let here : bytes_in p' g ≡ plain = rw turns.frames_are (get_or-set_same p.frames g plain [] inside) in
    stands_clean p p' w m g q plain s whole inside outside nowhere (record {
      newest = λ kept. here ∙ opened_newest p w m g q t plain s free shown recorded opens kept;
      shown = recorded ∙ ap (λ (x : List ℕ). Some x) (sym sees);
      long = rw here opens.long;
      sealed = λ t' at.
          let one : t' ≡ t = (let e = sym at ∙ (turns.metas_are q ∙ shown) in cc) in
          rw (here, one, s.keys, sees) opens.seals_back;
    }) turns

-- the marks of a comparison are nothing that the relation speaks of
pub stands_compared : (p : PagerState) (w : PageId → Bool) (m : CloakedMemory) (a b : List ℕ) → StandsForMemory p w m →
    StandsForMemory p w (with_comparison a b m)
stands_compared p w m a b s = stands_same p w m (with_comparison a b m) s refl refl refl refl refl refl refl

pub stands_taken_compared : (p : PagerState) (w : PageId → Bool) (m : CloakedMemory) (a b : List ℕ) (q : PageId) (g : ℕ)
    (write : Bool) →
    StandsForMemory p w (taken q g write m) → StandsForMemory p w (taken q g write (with_comparison a b m))
stands_taken_compared p w m a b q g true s =
    stands_same p w (with_owed g (Some q) m)
    (with_owed g (Some q) (with_comparison a b m)) s refl refl refl refl refl refl refl
stands_taken_compared p w m a b q g false s = stands_compared p w m a b s

-- what taking leaves
pub taken_stream : (q : PageId) (g : ℕ) (write : Bool) (m : CloakedMemory) →
    (taken q g write m).ledger.stream ≡ m.ledger.stream
taken_stream q g true m = refl
taken_stream q g false m = refl

-- what is told of an offer, by what it came to
abbrev pub after_offering : AfterOffer → (PageId → Bool) → ToldCall (List (ℕ × List ℕ) × Bool)
after_offering o w = record { answer = (o.ciphers, o.granted); wiped = w; memory = o.memory }

abbrev pub FollowsOffer : PagerState → Offered → Random → (PageId → Bool) → AfterOffer → Type 0
FollowsOffer p' result left w o = FollowsCallFrom p' left (answer_of result) (after_offering o w)

-- The frame shows what was recorded: the page is taken.
pub accepted_follows : (p' : PagerState) (w : PageId → Bool) (m : CloakedMemory) (g : ℕ) (q : PageId) (write : Bool)
    (c : List ℕ) →
    owed_in m g ≡ None → IsUnowed m q → m.ledger.recorded q ≡ Some c → get_or m.ram g [] ≡ c →
    StandsForMemory p' w (taken q g write m) → FollowsOffer p' Ready m.ledger.stream w (offer q g write m)
accepted_follows p' w m g q write c none free recorded sees stands =
    let there : List ℕ = get_or m.ram g [] in
    let comes : offer q g write m
    ≡ record { memory = taken q g write (with_comparison there c m); ciphers = []; granted = true } =
    offer_settled q g write m none (none_owing m q free)
    ∙ compared_equal q g write m (m.ledger.recorded q) c recorded (bytes_equal there c sees) in
    let M : AfterOffer → Type 0 = λ o. FollowsOffer p' Ready m.ledger.stream w o in
    subst M (sym comes) (record {
      answer = refl;
      stands = stands_taken_compared p' w m there c q g write stands;
      drawn = taken_stream q g write (with_comparison there c m);
    })

-- The frame shows something else.
pub refused_follows : (p : PagerState) (w : PageId → Bool) (m : CloakedMemory) (g : ℕ) (q : PageId) (write : Bool)
    (c : List ℕ) →
    owed_in m g ≡ None → IsUnowed m q → m.ledger.recorded q ≡ Some c → get_or m.ram g [] ≢ c → StandsForMemory p w m →
    FollowsOffer p Mismatch m.ledger.stream w (offer q g write m)
refused_follows p w m g q write c none free recorded differs stands =
    let there : List ℕ = get_or m.ram g [] in
    let other : bytes_eq there c ≡ false =
    false_from_ne_true (bytes_eq there c) (λ e. differs (equal_bytes there c e)) in
    let comes : offer q g write m ≡ record { memory = with_comparison there c m; ciphers = []; granted = false } =
    offer_settled q g write m none (none_owing m q free)
    ∙ compared_other q g write m (m.ledger.recorded q) c recorded other in
    let M : AfterOffer → Type 0 = λ o. FollowsOffer p Mismatch m.ledger.stream w o in
    subst M (sym comes) (record { answer = refl; stands = stands_compared p w m there c stands; drawn = refl })

-- The page was never shown.
pub fresh_follows : (p' : PagerState) (w : PageId → Bool) (m : CloakedMemory) (g : ℕ) (q : PageId) (write : Bool) →
    owed_in m g ≡ None → IsUnowed m q → m.ledger.recorded q ≡ None → StandsForMemory p' w (with_owed g (Some q) m) →
    FollowsOffer p' Ready m.ledger.stream w (offer q g write m)
fresh_follows p' w m g q write none free recorded stands =
    let comes : offer q g write m ≡ record { memory = with_owed g (Some q) m; ciphers = []; granted = true } =
    offer_settled q g write m none (none_owing m q free) ∙ compared_fresh q g write m (m.ledger.recorded q) recorded in
    let M : AfterOffer → Type 0 = λ o. FollowsOffer p' Ready m.ledger.stream w o in
    subst M (sym comes) (record { answer = refl; stands = stands; drawn = refl })

-- The frame is owed the page already.
pub owed_follows : (p : PagerState) (w : PageId → Bool) (m : CloakedMemory) (g : ℕ) (q : PageId) (write : Bool) →
    owed_in m g ≡ Some q → StandsForMemory p w m → FollowsOffer p Ready m.ledger.stream w (offer q g write m)
owed_follows p w m g q write owes stands =
    let M : AfterOffer → Type 0 = λ o. FollowsOffer p Ready m.ledger.stream w o in
    subst M (sym (offer_at_once q g write m owes)) (record { answer = refl; stands = stands; drawn = refl })

-- if equal digests were not of equal bytes, the offer set the mark
pub equal_unclashed : (m : CloakedMemory) (g : ℕ) (q : PageId) (write : Bool) (c : List ℕ) → owed_in m g ≡ None →
    IsUnowed m q → m.ledger.recorded q ≡ Some c → sha256 (get_or m.ram g []) ≡ sha256 c →
    (offer q g write m).memory.ledger.clashed ≡ false → get_or m.ram g [] ≡ c
equal_unclashed m g q write c none free recorded digest unclashed =
    equal_bytes (get_or m.ram g []) c (by_value (bytes_eq (get_or m.ram g []) c) refl)
  where
    by_value : (b : Bool) → bytes_eq (get_or m.ram g []) c ≡ b → bytes_eq (get_or m.ram g []) c ≡ true
    by_value true e = e
    by_value false e =
        let there : List ℕ = get_or m.ram g [] in
        let comes : offer q g write m ≡ record { memory = with_comparison there c m; ciphers = []; granted = false } =
        offer_settled q g write m none (none_owing m q free)
        ∙ compared_other q g write m (m.ledger.recorded q) c recorded e in
        let mark : (m.ledger.clashed || is_clash there c) ≡ false =
        sym (ap (λ (o : AfterOffer). o.memory.ledger.clashed) comes) ∙ unclashed in
        clashes m.ledger.clashed there c mark (bytes_equal (sha256 there) (sha256 c) digest)

-- Page q may be offered in frame g: both are there, the frame is outside or holds the page, and no other frame does.
pub record MayOffer (p : PagerState) (q : PageId) (g : ℕ) : Type 0 where
  pub inside : g < length p.frames
  pub page : IsIn (domains_of p.table) q
  pub room : (held_in p g ≡ None) ⊎ (held_in p g ≡ Some q)
  pub alone : (k : ℕ) → held_in p k ≡ Some q → k ≡ g

-- one of the page that the frame holds
pub may_again : {p : PagerState} {g : ℕ} {h : FrameRight} → HasRight p g h → (q : PageId) → page_of h ≡ Some q →
    MayOffer p q g
may_again {p} {g} {h} right q is =
    let was : held_in p g ≡ Some q = ap page_of right.at ∙ is in
    record {
      inside = right.inside;
      page = in_by h (named_as right) is;
      room = inr was;
      alone = λ k held. right.whole.one_home k g q held was;
    }
  where
    in_by : (h : FrameRight) → Names p.table g h → page_of h ≡ Some q → IsIn (domains_of p.table) q
    in_by (Outside r) named is = absurd (let no : None ≡ Some q = is in cc)
    in_by (Clean r) named is = (let same : r.page ≡ q = (let e : Some r.page ≡ Some q = is in cc) in
        subst (λ (x : PageId). IsIn (domains_of p.table) x) same named.1)
    in_by (Changed r) named is = (let same : r.page ≡ q = (let e : Some r.page ≡ Some q = is in cc) in
        subst (λ (x : PageId). IsIn (domains_of p.table) x) same named.1)
    in_by Spent named is = absurd named

-- An offer does what the rules of cloaking tell of it.
pub offer_follows : (p p' : PagerState) (q : PageId) (g : ℕ) (write : Bool) (result : Offered) → MayOffer p q g →
    result ≡ end_of_offer (right_at p g) (meta_at p.table q) (bytes_in p g) →
    OfferedTurns result (right_at p g) (meta_at p.table q) write p p' q g →
    FollowsCallUnclashed p p' (answer_of result) (after_offer q g write)
offer_follows p p' q g write result may cause turns w m s unclashed =
    by_right (right_at p g) refl (meta_at p.table q) refl cause turns
  where
    Goal : Offered → Type 0
    Goal r = FollowsOffer p' r m.ledger.stream w (offer q g write m)

    frame_at : (h : FrameRight) → right_at p g ≡ h → FrameStands p w m g h
    frame_at h at = let F : FrameRight → Type 0 = λ x. FrameStands p w m g x in subst F at (s.frames g may.inside)

    owed_by : (h : FrameRight) → right_at p g ≡ h → owed_in m g ≡ owed_under h
    owed_by h at = owed_by_right p w m s g ∙ ap owed_under at

    turned : (r : Offered) (h : FrameRight) (t : Option Meta) → result ≡ r → OfferedTurns result h t write p p' q g →
        OfferedTurns r h t write p p' q g
    turned r h t is took = let O : Offered → Type 0 = λ x. OfferedTurns x h t write p p' q g in subst O is took

    page_at : (t : Option Meta) → meta_at p.table q ≡ t → PageStands (w q) m q t
    page_at t shown = let T : Option Meta → Type 0 = λ x. PageStands (w q) m q x in subst T shown (s.pages q)

    the_page : (r : Holding) → held_in p g ≡ Some r.page → r.page ≡ q
    the_page r held = elim may.room [
      | inl e ↦ absurd (let no : None ≡ Some r.page = sym e ∙ held in cc)
      | inr e ↦ (let same = sym held ∙ e in cc)
    ]

    -- no frame holds the page if the frame is outside
    nowhere : held_in p g ≡ None → (k : ℕ) → held_in p k ≢ Some q
    nowhere outside k e =
        let here : held_in p g ≡ Some q = subst (λ (x : ℕ). held_in p x ≡ Some q) (may.alone k e) e in
        (let no : None ≡ Some q = sym outside ∙ here in cc)

    -- whether the digest of the frame's bytes is the one that the metadata has
    by_shown : (r : Frame) → right_at p g ≡ Outside r → (t : Meta) → meta_at p.table q ≡ Some t → (found : Offered) →
        result ≡ found →
        ((found ≡ Ready) × (sha256 (bytes_in p g) ≡ t.digest)) ⊎
        ((found ≡ Mismatch) × (sha256 (bytes_in p g) ≢ t.digest)) →
        OfferedTurns result (Outside r) (Some t) write p p' q g → Goal result
    by_shown r at t shown found is how turns =
        let outside : held_in p g ≡ None = ap page_of at in
        let none : owed_in m g ≡ None = owed_by (Outside r) at in
        let free : IsUnowed m q = unowed_nowhere p w m s q (nowhere outside) in
        let sees : get_or m.ram g [] ≡ bytes_in p g = sym (frame_at (Outside r) at) in
        let recorded : IsRecorded (w q) m q t = page_at (Some t) shown in
        elim how [
          | inl h ↦
              let digest : sha256 (get_or m.ram g []) ≡ sha256 recorded.bytes = ap sha256 sees
              ∙ (h.1 ∙ sym recorded.digest) in
              let equal : get_or m.ram g [] ≡ recorded.bytes =
              equal_unclashed m g q write recorded.bytes none free recorded.is digest unclashed in
              let opened : OfferedTurns Ready (Outside r) (Some t) write p p' q g =
              turned Ready (Outside r) (Some t) (is ∙ h.0) turns in
              let there : meta_at p.table q ≢ None = λ n. (let no : None ≡ Some t = sym n ∙ shown in cc) in
              let whole : IsWholePager p' =
              whole_taken p p' g q write opened.0 s.whole may.inside may.page may.alone (inl there) opened.2 in
              let last : m.ledger.recorded q ≡ Some (bytes_in p g) = recorded.is
              ∙ ap (λ (x : List ℕ). Some x) (sym equal ∙ sees) in
              let stands = stands_opened p p' w m g q write t opened.0 s whole may.inside outside
              (nowhere outside) shown sees last opened.1 opened.2 in
              subst Goal (sym (is ∙ h.0))
              (accepted_follows p' w m g q write recorded.bytes none free recorded.is equal stands)
          | inr h ↦
              let same : p' ≡ p = turned Mismatch (Outside r) (Some t) (is ∙ h.0) turns in
              let differs : get_or m.ram g [] ≢ recorded.bytes =
              λ e. h.1 (ap sha256 (sym sees ∙ e) ∙ recorded.digest) in
              let P : PagerState → Type 0 = λ x. FollowsOffer x Mismatch m.ledger.stream w (offer q g write m) in
              subst Goal (sym (is ∙ h.0))
              (subst P (sym same) (refused_follows p w m g q write recorded.bytes none free recorded.is differs s))
        ]

    by_digest : (t : Meta) (bytes : List ℕ) (b : Bool) → bytes_eq (sha256 bytes) t.digest ≡ b →
        ((shown_by_digest t bytes ≡ Ready) × (sha256 bytes ≡ t.digest)) ⊎
        ((shown_by_digest t bytes ≡ Mismatch) × (sha256 bytes ≢ t.digest))
    by_digest t bytes true e =
        let same : sha256 bytes ≡ t.digest = equal_bytes (sha256 bytes) t.digest e in
        inl (sym (same_digest t bytes same), same)
    by_digest t bytes false e =
        let differs : sha256 bytes ≢ t.digest =
        λ same. (let no : true ≡ false = sym (bytes_equal (sha256 bytes) t.digest same) ∙ e in cc) in
        inr (sym (other_digest t bytes differs), differs)

    by_write : (b : Bool) (r : Holding) (t : Option Meta) → held_in p g ≡ Some q → IsUnowed m q →
        HoldsClean p (w q) m g q → OfferTurns (Clean r) t b p p' q g → StandsForMemory p' w (taken q g b m)
    by_write true r t held free clean took =
        let whole : IsWholePager p' =
        whole_taken p p' g q true (bytes_in p g) s.whole may.inside may.page may.alone (inr refl) took in
        stands_changed p p' w m g q (bytes_in p g) s whole may.inside
        (λ o e. sym held ∙ e) may.alone free clean.newest took
    by_write false r t held free clean took =
        (let S : PagerState → Type 0 = λ x. StandsForMemory x w m in subst S (sym took) s)

    by_right : (h : FrameRight) → right_at p g ≡ h → (t : Option Meta) → meta_at p.table q ≡ t →
        result ≡ end_of_offer h t (bytes_in p g) → OfferedTurns result h t write p p' q g → Goal result
    by_right (Outside r) at (Some t) shown cause turns =
        let how = by_digest t (bytes_in p g) (bytes_eq (sha256 (bytes_in p g)) t.digest) refl in
        by_shown r at t shown (shown_by_digest t (bytes_in p g)) cause how turns
    by_right (Outside r) at None shown cause turns =
        let took : HoldsNow p p' q g true zero_page = turned Ready (Outside r) None cause turns in
        let outside : held_in p g ≡ None = ap page_of at in
        let free : IsUnowed m q = unowed_nowhere p w m s q (nowhere outside) in
        let page : PageStands (w q) m q None = page_at None shown in
        let whole : IsWholePager p' =
        whole_taken p p' g q true zero_page s.whole may.inside may.page may.alone (inr refl) took in
        let held : (o : PageId) → held_in p g ≡ Some o → Some q ≡ Some o =
        λ o e. absurd (let no : None ≡ Some o = sym outside ∙ e in cc) in
        let stands = stands_changed p p' w m g q zero_page s whole may.inside held may.alone free
        (λ kept. sym (page.1 kept free)) took in
        subst Goal (sym cause) (fresh_follows p' w m g q write (owed_by (Outside r) at) free page.0 stands)
    by_right (Clean r) at t shown cause turns =
        let of : r.page ≡ q = the_page r (ap page_of at) in
        let held : held_in p g ≡ Some q = ap page_of at ∙ ap (λ (x : PageId). Some x) of in
        let free : IsUnowed m q = unowed_clean p w m s g q held (ap owed_under at) in
        let C : PageId → Type 0 = λ x. HoldsClean p (w x) m g x in
        let clean : HoldsClean p (w q) m g q = subst C of (frame_at (Clean r) at) in
        let stands = by_write write r t held free clean (turned Ready (Clean r) t cause turns) in
        subst Goal (sym cause)
        (accepted_follows p' w m g q write (get_or m.ram g []) (owed_by (Clean r) at) free clean.shown refl stands)
    by_right (Changed r) at t shown cause turns =
        let of : r.page ≡ q = the_page r (ap page_of at) in
        let owes : owed_in m g ≡ Some q = owed_by (Changed r) at ∙ ap (λ (x : PageId). Some x) of in
        let same : p' ≡ p = turned Ready (Changed r) t cause turns in
        let P : PagerState → Type 0 = λ x. FollowsOffer x Ready m.ledger.stream w (offer q g write m) in
        subst Goal (sym cause) (subst P (sym same) (owed_follows p w m g q write owes s))
    by_right Spent at t shown cause turns = absurd (frame_at Spent at)

-- the same, by what the frame holds and the metadata that the page has
pub offer_by : (p p' : PagerState) (q : PageId) (g : ℕ) (write : Bool) (result : Offered) (h : FrameRight) (t : Option Meta) →
    MayOffer p q g → HasRight p g h → meta_at p.table q ≡ t → result ≡ end_of_offer h t (bytes_in p g) →
    OfferedTurns result h t write p p' q g → FollowsCallUnclashed p p' (answer_of result) (after_offer q g write)
offer_by p p' q g write result h t may right shown cause turns =
    let T : FrameRight → Option Meta → Type 0 = λ x y. (result ≡ end_of_offer x y (bytes_in p g))
    × OfferedTurns result x y write p p' q g in
    let by_meta : T h (meta_at p.table q) = subst (λ (y : Option Meta). T h y) (sym shown) (cause, turns) in
    let by_right : T (right_at p g) (meta_at p.table q) =
    subst (λ (x : FrameRight). T x (meta_at p.table q)) (sym right.at) by_meta in
    offer_follows p p' q g write result may by_right.0 by_right.1

pub shown_turns : (p p' : PagerState) (q : PageId) (g : ℕ) (write : Bool) (result : Offered) (r : Frame) (t : Meta) →
    ShownTurns result t write p p' q g → OfferedTurns result (Outside r) (Some t) write p p' q g
shown_turns p p' q g write Ready r t turns = turns
shown_turns p p' q g write Mismatch r t turns = turns

-- a frame that held the page unchanged, changed
pub clean_turns : (p p' : PagerState) (q : PageId) (g : ℕ) (r : Holding) (t : Option Meta) → HasRight p g (Clean r) →
    (held_in p g ≡ None) ⊎ (held_in p g ≡ Some q) →
    ((o : PageId) → held_in p g ≡ Some o → HoldsNow p p' o g true (bytes_in p g)) → OfferTurns (Clean r) t true p p' q g
clean_turns p p' q g r t right room turns =
    let held : held_in p g ≡ Some r.page = ap page_of right.at in
    elim room [
      | inl e ↦ absurd (let no : None ≡ Some r.page = sym e ∙ held in cc)
      | inr e ↦ turns q e
    ]
