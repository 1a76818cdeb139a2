-- What is asked for whole resources, over plain variables.
use Rattle.std.proofs.Common.{◌≡◌, ◌<◌, ◌≤◌, ◌+◌, ℕ, suc, Bool, true, false, cond, ◌&&◌, ◌||◌, List, [], ◌∷◌, ◌++◌, Option, Some}
use Rattle.std.proofs.Common.{None, length, slice_index_or, nat_eq, refl, ap, sym, ◌∙◌, subst, inl, inr, arith}
use Rattle.std.proofs.lemmas.Bool.{false≢true}
use Rattle.std.proofs.lemmas.Bool.Decides.{Decides-eqb}
use Rattle.std.proofs.lemmas.List.{append-nil}
use Rattle.cloak_base.specs.declared.names.PageId.{PageId}
use Rattle.cloak_base.specs.Pages.{is_of}
use Rattle.cloak_base.proofs.Pages.{is_of_tells}
use Rattle.cloak_model.specs.declared.answer.Answer.{Answer}
use Rattle.cloak_model.specs.declared.answer.Answer.TheVariants.{Stopped, Ok as Granted}
use Rattle.cloak_model.specs.Items.{Item}
use Rattle.cloak_model.specs.Cloaking.{AfterSettling, CloakedMemory, owed_in, settle}
use Rattle.cloak_model.specs.PageMoves.{copy_pages, drop_pages}
use Rattle.cloak_model.specs.Events.{Drop}
use Rattle.cloak_model.specs.World.{World, Flat, Cloaked, Alone, settled, owed_of}
use Rattle.cloak_model.specs.Asking.{FollowsFrom}
use Rattle.cloak_model.specs.AskPages.{replies, is_marked, settled_if_marked, clear_from, ask_clear, ask_copy}
use Rattle.cloak_model.specs.AskPages.{ask_forget}
use Rattle.cloak_model.specs.Exchange.{Piece, Emits, item_pieces}
use Rattle.cloak_pager.specs.State.{PagerState, IsWholePager, IsNoneOwed, IsNoneHeld, right_at, held_in, owed_at}
use Rattle.cloak_pager.specs.Asking.{FollowsCallStill, after_copy_pages, after_drop_pages, wiped_copies}
use Rattle.cloak_pager.proofs.Stands.{owed_by_right, owed_held}
use Rattle.cloak_pager.proofs.Writes.{held_within}
use Rattle.cloak_pager.proofs.Pages.{same_or_not}
use Rattle.cloaked_side.specs.Holding.{Holds, HoldsNoMore, Settles, frames_of}
use Rattle.shadow_fold.specs.declared.entry.Regime.{Regime}
use Rattle.cloaked_side.specs.Seeing.{IsRegimeFor, Sees, ShowsWorld, asked_by, space_in}
use Rattle.shadow_fold.specs.Reads.{Spends, reads_due}
use Rattle.shadow_fold.specs.Table.{Table}
use Rattle.cloaked_side.proofs.Spending.{due_events, maps_further, maps_of, maps_on, maps_same, maps_still, spends_looks, spends_more, spends_still, spends_then}
use Rattle.cloaked_side.specs.declared.side.Side.{Side}
use Rattle.cloaked_side.proofs.Rooming.{changed_or_not, unheld_unowed}
use Rattle.cloaked_side.proofs.Sided.{Repaged, AgreesAlways, count_of}
use Rattle.cloaked_side.proofs.Tracking.{respaced, tracks_drop, tracks_on, tracks_same}
use Rattle.cloaked_side.specs.Tracking.{Tracks, TracksBy, MapsStill, spent_in}
use Rattle.shadow_fold.specs.Fold.{Fold, holds, touched_where}
use Rattle.cloaked_side.proofs.Answering.{drawn_told, undrawn_told}
use Rattle.cloak_model.proofs.Emitting.{emits_items}
use Rattle.cloak_model.proofs.Settling.{settle_unowed}
use Rattle.shadow_fold.proofs.Looks.{looks_then}

-- what a frame is owed in a world
owed_by_world : {E : Type 0} (gave : E → E → List Piece → Type 0) (first now : Side E) (f : ℕ) (w : World) →
    Sees gave first now w → slice_index_or (owed_of w) f None ≡ owed_at now.memory.now.pager f
owed_by_world gave first now f (Flat ram) sees = absurd sees
owed_by_world gave first now f (Alone handed) sees = absurd sees
owed_by_world gave first now f (Cloaked c) sees =
    owed_by_right now.memory.now.pager sees.holds.wiped c.memory sees.holds.pager f

-- A frame was settled if it was owed a page of a marked resource.
pub sees_marked : {E : Type 0} (gave : E → E → List Piece → Type 0) (first old new : Side E) (domain : ℕ)
    (marked : List Bool) (f : ℕ) (w : World) →
    is_marked domain marked (owed_at old.memory.now.pager f) ≡ true → Sees gave first old w →
    Sees gave first new (settled f w) → Sees gave first new (settled_if_marked domain marked f w)
unfolding settled_if_marked
sees_marked gave first old new domain marked f w is sees stands =
    let here : is_marked domain marked (slice_index_or (owed_of w) f None) ≡ true =
    ap (λ o. is_marked domain marked o) (owed_by_world gave first old f w sees) ∙ is in
    subst (λ (b : Bool). Sees gave first new (cond b (settled f w) w)) (sym here) stands

pub sees_unmarked : {E : Type 0} (gave : E → E → List Piece → Type 0) (first old : Side E) (domain : ℕ)
    (marked : List Bool) (f : ℕ) (w : World) →
    is_marked domain marked (owed_at old.memory.now.pager f) ≡ false → Sees gave first old w →
    Sees gave first old (settled_if_marked domain marked f w)
unfolding settled_if_marked
sees_unmarked gave first old domain marked f w is sees =
    let here : is_marked domain marked (slice_index_or (owed_of w) f None) ≡ false =
    ap (λ o. is_marked domain marked o) (owed_by_world gave first old f w sees) ∙ is in
    subst (λ (b : Bool). Sees gave first old (cond b (settled f w) w)) (sym here) sees

pub unmarked_settled : (domain : ℕ) (marked : List Bool) (p : PagerState) (f : ℕ) → held_in p f ≡ None →
    is_marked domain marked (owed_at p f) ≡ false
unmarked_settled domain marked p f none = ap (λ o. is_marked domain marked o) (unheld_unowed (right_at p f) none)

-- what is owed no more than before is owed no page of a marked resource
pub unmarked_still : (domain : ℕ) (marked : List Bool) (f : ℕ) (p p' : PagerState) → HoldsNoMore p p' →
    is_marked domain marked (owed_at p f) ≡ false → is_marked domain marked (owed_at p' f) ≡ false
unmarked_still domain marked f p p' less is = by_value (owed_at p' f) refl
  where
    by_value : (o : Option PageId) → owed_at p' f ≡ o → is_marked domain marked (owed_at p' f) ≡ false
    by_value None e = ap (λ x. is_marked domain marked x) e
    by_value (Some q) e = ap (λ x. is_marked domain marked x) (e ∙ sym (less.owed f q e)) ∙ is

-- The loop over the frames: from frame `i` on, n frames are left of all, and what is left to be asked completes it.
abbrev pub Clears : {E : Type 0} (gave : E → E → List Piece → Type 0) (old now : Side E) (domain : ℕ)
    (marked : List Bool) (i n all : ℕ) → Type 0
Clears {E} gave old now domain marked i n all =
    (new : Side E) (a : Answer) (first : Side E) (w : World) → Sees gave first old w →
    ((v : World) → Sees gave first now v → FollowsFrom (Sees gave first) new a (clear_from domain marked i n v)) →
    FollowsFrom (Sees gave first) new a (clear_from domain marked 0 all w)

pub clears_missed : {E : Type 0} (gave : E → E → List Piece → Type 0) (old now mid new : Side E) (domain : ℕ)
    (marked : List Bool) (i n n' all : ℕ) (a : Answer) (first : Side E) (w : World) →
    Clears gave old now domain marked i n all → n ≡ suc n' →
    ((v : World) → Sees gave first now v → Sees gave first mid (settled_if_marked domain marked i v)) →
    mid.memory.now.missed ≡ true →
    ((v : World) → Sees gave first mid v → FollowsFrom (Sees gave first) new a (replies Stopped v)) →
    Sees gave first old w →
    FollowsFrom (Sees gave first) new a (clear_from domain marked 0 all w)
unfolding clear_from
clears_missed gave old now mid new domain marked i n n' all a first w clears more one missed stopped sees =
    clears new a first w sees (λ v seen.
    subst (λ (k : ℕ). FollowsFrom (Sees gave first) new a (clear_from domain marked i k v)) (sym more)
    (drawn_told gave first mid new a (clear_from domain marked (i + 1) n') (settled_if_marked domain marked i v)
    (one v seen) missed (stopped _ (one v seen))))

pub clears_next : {E : Type 0} (gave : E → E → List Piece → Type 0) (old now mid : Side E) (domain : ℕ)
    (marked : List Bool) (i n n' all : ℕ) → Clears gave old now domain marked i n all → n ≡ suc n' →
    ((first : Side E) (v : World) → Sees gave first now v →
    Sees gave first mid (settled_if_marked domain marked i v)) → mid.memory.now.missed ≡ false →
    Clears gave old mid domain marked (i + 1) n' all
unfolding clear_from
clears_next gave old now mid domain marked i n n' all clears more one drawn new a first w sees rest =
    clears new a first w sees (λ v seen.
    subst (λ (k : ℕ). FollowsFrom (Sees gave first) new a (clear_from domain marked i k v)) (sym more)
    (undrawn_told gave first mid new a (clear_from domain marked (i + 1) n') (settled_if_marked domain marked i v)
    (one first v seen) drawn (rest _ (one first v seen))))

pub clears_end : {E : Type 0} (gave : E → E → List Piece → Type 0) (old now new : Side E) (domain : ℕ)
    (marked : List Bool) (i n all : ℕ) (a : Answer) (first : Side E) (w : World) →
    Clears gave old now domain marked i n all → n ≡ 0 →
    ((v : World) → Sees gave first now v → FollowsFrom (Sees gave first) new a (replies Granted v)) →
    Sees gave first old w →
    FollowsFrom (Sees gave first) new a (clear_from domain marked 0 all w)
unfolding clear_from
clears_end gave old now new domain marked i n all a first w clears none granted sees =
    clears new a first w sees (λ v seen.
    subst (λ (k : ℕ). FollowsFrom (Sees gave first) new a (clear_from domain marked i k v)) (sym none) (granted v seen))

pub asked_clear : {E : Type 0} (gave : E → E → List Piece → Type 0) (first old new : Side E) (domain : ℕ)
    (marked : List Bool) (all : ℕ) (a : Answer) (w : World) → Sees gave first old w → all ≡ frames_of old.memory.now →
    FollowsFrom (Sees gave first) new a (clear_from domain marked 0 all w) →
    FollowsFrom (Sees gave first) new a (ask_clear domain marked w)
unfolding ask_clear
asked_clear gave first old new domain marked all a (Flat ram) sees is told = absurd sees
asked_clear gave first old new domain marked all a (Alone handed) sees is told = absurd sees
asked_clear gave first old new domain marked all a (Cloaked c) sees is told =
    subst (λ (n : ℕ). FollowsFrom (Sees gave first) new a (clear_from domain marked 0 n (Cloaked c)))
    (is ∙ sym (count_of gave first old (Cloaked c) sees)) told

-- a page of a marked resource is one that is marked
marked_page : (domain : ℕ) (marked : List Bool) (r : ℕ) (q : PageId) → slice_index_or marked r false ≡ true →
    q.domain ≡ domain → q.resource ≡ r → is_marked domain marked (Some q) ≡ true
marked_page domain marked r q mark d n =
    let of_domain : nat_eq q.domain domain ≡ true = ap (λ x. nat_eq x domain) d ∙ (Decides-eqb domain domain).1 refl in
    let is_set : slice_index_or marked q.resource false ≡ true = ap (λ k. slice_index_or marked k false) n ∙ mark in
    ap (λ b. b && slice_index_or marked q.resource false) of_domain ∙ is_set

-- all frames are cleared
pub none_owed : (p : PagerState) (domain : ℕ) (marked : List Bool) → IsWholePager p →
    ((k : ℕ) → k < length p.frames → is_marked domain marked (owed_at p k) ≡ false) →
    (r : ℕ) → slice_index_or marked r false ≡ true → IsNoneOwed p domain r
none_owed p domain marked whole cleared r mark k q e = elim (is_of_tells domain r q) [
  | inl here ↦
      let within : k < length p.frames =
      subst (λ (n : ℕ). k < n) whole.count (held_within p.rights k q (owed_held (right_at p k) q e)) in
      absurd (false≢true (sym (cleared k within) ∙ ap (λ o. is_marked domain marked o) e
      ∙ marked_page domain marked r q mark here.1.0 here.1.1))
  | inr other ↦ other.0
]

-- a frame that holds a page of a resource of which none is owed is owed nothing
pub unowed_of : (p : PagerState) (domain r f : ℕ) → IsNoneOwed p domain r → holds (is_of domain r) (held_in p f) ≡ true →
    owed_at p f ≡ None
unowed_of p domain r f none here = by_value (held_in p f) refl
  where
    by_value : (o : Option PageId) → held_in p f ≡ o → owed_at p f ≡ None
    by_value None e = absurd (false≢true (sym (ap (λ x. holds (is_of domain r) x) e) ∙ here))
    by_value (Some q) e = elim (changed_or_not (right_at p f) q e) [
      | inl owed ↦ absurd (false≢true (sym (none f q owed) ∙ sym (ap (λ x. holds (is_of domain r) x) e) ∙ here))
      | inr unowed ↦ unowed
    ]

-- a frame that holds no page of a resource
pub away_of : (p : PagerState) (domain r f : ℕ) → holds (is_of domain r) (held_in p f) ≡ false → (q : PageId) →
    held_in p f ≡ Some q → is_of domain r q ≡ false
away_of p domain r f here q e = sym (ap (λ x. holds (is_of domain r) x) e) ∙ here

-- past its frames a pager holds nothing
pub none_past : (p : PagerState) → IsWholePager p → (k : ℕ) → length p.frames ≤ k → held_in p k ≡ None
none_past p whole k high = by_value (held_in p k) refl
  where
    by_value : (o : Option PageId) → held_in p k ≡ o → held_in p k ≡ None
    by_value None e = e
    by_value (Some q) e =
        let within : k < length p.frames = subst (λ (n : ℕ). k < n) whole.count (held_within p.rights k q e) in
        absurd (omega (arith, high, within))

-- no frame is owed more than before
pub none_owed_still : (p p' : PagerState) (domain r : ℕ) → HoldsNoMore p p' → IsNoneOwed p domain r →
    IsNoneOwed p' domain r
none_owed_still p p' domain r less none k q e = none k q (less.owed k q e)

pub none_held_still : (p p' : PagerState) (domain r : ℕ) → HoldsNoMore p p' → IsNoneHeld p domain r →
    IsNoneHeld p' domain r
none_held_still p p' domain r less none k q e = none k q (less.held k q e)

-- A frame was settled that was owed nothing: all but what the fold has of it is as it was.

pub shows_of : {E : Type 0} (gave : E → E → List Piece → Type 0) (first now : Side E) (w : World) → Sees gave first now w → ShowsWorld gave first now w
shows_of gave first now (Flat ram) sees = sees
shows_of gave first now (Alone handed) sees = sees
shows_of gave first now (Cloaked c) sees = record {
  holds = sees.holds;
  emits = sees.emits;
  violation = sees.violation;
  domain = sees.domain;
  regime = sees.regime;
  spends = sees.spends;
  maps = sees.maps;
}

pub shows_settled : {E : Type 0} (gave : E → E → List Piece → Type 0) (first old new : Side E) (f : ℕ) (w : World) →
    ((m : CloakedMemory) → Holds old.memory.now m →
    Settles gave old.emitter.now new.emitter.now new.memory.now (settle f m)) →
    ((m : CloakedMemory) → Holds old.memory.now m →
    Spends 0 (length (settle f m).ciphers) (spent_in old.memory.now) (spent_in new.memory.now)) →
    MapsStill old.memory.now new.memory.now →
    new.violation ≡ old.violation → new.domain ≡ old.domain → new.regime ≡ old.regime →
    owed_at old.memory.now.pager f ≡ None → ShowsWorld gave first old w → ShowsWorld gave first new w
shows_settled gave first old new f (Flat ram) settles spends maps violation domain regime none shows = shows
shows_settled gave first old new f (Alone handed) settles spends maps violation domain regime none shows = shows
shows_settled gave first old new f (Cloaked c) settles spends maps violation domain regime none shows =
    let h = shows.holds in
    let unowed : owed_in c.memory f ≡ None = owed_by_right old.memory.now.pager h.wiped c.memory h.pager f ∙ none in
    let s = subst (λ (x : AfterSettling). Settles gave old.emitter.now new.emitter.now new.memory.now x) (settle_unowed f c.memory unowed) (settles c.memory h) in
    record {
      holds = s.holds;
      emits = subst (λ (is : List Item). Emits gave first.emitter.now new.emitter.now (item_pieces is))
          (append-nil c.items) (emits_items c.items [] shows.emits s.emits);
      violation = violation ∙ shows.violation;
      domain = domain ∙ shows.domain;
      regime = subst (λ (r : Regime). IsRegimeFor c.regime r) (sym regime) shows.regime;
      spends = spends_looks (omega arith)
          (spends_more (0 + 0) 0 (reads_due (asked_by (space_in old.regime) c) + 0) (reads_due (asked_by (space_in new.regime) c))
          (spent_in first.memory.now) (spent_in new.memory.now) (omega arith)
          (spends_then 0 0 (reads_due (asked_by (space_in old.regime) c)) 0 (spent_in first.memory.now) (spent_in old.memory.now) (spent_in new.memory.now)
          shows.spends
          (subst (λ (x : AfterSettling). Spends 0 (length x.ciphers) (spent_in old.memory.now) (spent_in new.memory.now))
          (settle_unowed f c.memory unowed) (spends c.memory h))));
      maps = maps_further first.memory.now old.memory.now new.memory.now (space_in new.regime) c.events
          (maps_of first.memory.now old.memory.now (space_in old.regime) (space_in new.regime) c.events (ap space_in regime) shows.maps) maps;
    }

none_copied : (b c d : Bool) → b ≡ false → d ≡ false → (b || (c && d)) ≡ false
none_copied b true d e f = ap (λ x. x || d) e ∙ f
none_copied b false d e f = ap (λ x. x || false) e

-- The pages of a resource were copied.
pub sees_copied : {E : Type 0} (gave : E → E → List Piece → Type 0) (first old new : Side E) (domain from to : ℕ)
    (w : World) → Repaged old new →
    AgreesAlways old.memory.now new.memory.now →
    FollowsCallStill old.memory.now.pager new.memory.now.pager (tt {0}) (after_copy_pages domain from to) →
    ((s : Fold) → Tracks old.memory.now s → Tracks new.memory.now s) →
    new.memory.now.pager.reads ≡ old.memory.now.pager.reads → new.memory.now.shadows ≡ old.memory.now.shadows →
    Sees gave first old w → FollowsFrom (λ side v. Sees gave first side v) new (tt {0}) (ask_copy domain from to w)
unfolding ask_copy copy_pages
sees_copied gave first old new domain from to (Flat ram) same still meets tracks reads shadows sees = absurd sees
sees_copied gave first old new domain from to (Alone handed) same still meets tracks reads shadows sees = absurd sees
sees_copied gave first old new domain from to (Cloaked c) same still meets tracks reads shadows sees =
    let h = sees.holds in
    let agreed = still c.memory (copy_pages domain from to c.memory) (λ held. refl) in
    record {
      answer = refl;
      stands = record {
        holds = record {
          wiped = wiped_copies domain from to h.wiped;
          pager = (meets h.wiped c.memory h.pager).stands;
          whole = λ none q. none_copied (h.wiped q) (is_of domain to q) _ (h.whole (sym same.missed ∙ none) q)
              (h.whole (sym same.missed ∙ none) _);
          stream = h.stream ∙ sym same.stream;
          draws = same.draws ∙ h.draws;
          missed = same.missed ∙ h.missed;
          agrees = agreed.agrees h.agrees;
          room = agreed.room ∙ h.room ∙ sym agreed.count;
          marks = same.marks ∙ h.marks;
        };
        emits = subst (λ e. Emits gave first.emitter.now e (item_pieces c.items)) (sym same.emitter) sees.emits;
        violation = same.violation ∙ sees.violation;
        domain = same.domain ∙ sees.domain;
        regime = subst (λ (r : Regime). IsRegimeFor c.regime r) (sym same.regime) sees.regime;
        tracks = tracks_same first.memory.now old.memory.now new.memory.now (space_in new.regime) c.events
            (respaced first.memory.now old.memory.now (space_in old.regime) (space_in new.regime) c.events (ap space_in same.regime) sees.tracks) tracks;
        spends = spends_looks (omega arith)
            (spends_more (0 + 0) 0 (reads_due (asked_by (space_in old.regime) c) + 0) (reads_due (asked_by (space_in new.regime) c))
            (spent_in first.memory.now) (spent_in new.memory.now) (omega arith)
            (spends_then 0 0 (reads_due (asked_by (space_in old.regime) c)) 0 (spent_in first.memory.now) (spent_in old.memory.now) (spent_in new.memory.now)
            sees.spends (spends_still old.memory.now new.memory.now reads (ap (λ (t : Table). t.counts.misses) shadows))));
        maps = maps_further first.memory.now old.memory.now new.memory.now (space_in new.regime) c.events
            (maps_of first.memory.now old.memory.now (space_in old.regime) (space_in new.regime) c.events (ap space_in same.regime) sees.maps)
            (maps_same old.memory.now new.memory.now shadows);
      };
    }

-- The pages of a resource were dropped, once its frames were emptied.
pub sees_dropped : {E : Type 0} (gave : E → E → List Piece → Type 0) (first begun old new : Side E) (domain r : ℕ)
    (w : World) → Repaged old new →
    AgreesAlways old.memory.now new.memory.now →
    FollowsCallStill old.memory.now.pager new.memory.now.pager (tt {0}) (after_drop_pages domain r) →
    new.regime ≡ begun.regime →
    TracksBy begun.memory.now new.memory.now (touched_where (is_of domain r)) →
    new.memory.now.pager.reads ≡ old.memory.now.pager.reads → new.memory.now.shadows ≡ old.memory.now.shadows →
    Sees gave first begun w → ShowsWorld gave first old w →
    FollowsFrom (λ side v. Sees gave first side v) new (tt {0}) (ask_forget domain r w)
unfolding ask_forget drop_pages
sees_dropped gave first begun old new domain r (Flat ram) same still meets regime tracks reads shadows sees shows = absurd sees
sees_dropped gave first begun old new domain r (Alone handed) same still meets regime tracks reads shadows sees shows = absurd sees
sees_dropped gave first begun old new domain r (Cloaked c) same still meets regime tracks reads shadows sees shows =
    let h = shows.holds in
    let m' = drop_pages domain r c.memory in
    let agreed = still c.memory m' (λ held. refl) in
    record {
      answer = refl;
      stands = record {
        holds = record {
          wiped = h.wiped;
          pager = (meets h.wiped c.memory h.pager).stands;
          whole = λ none. h.whole (sym same.missed ∙ none);
          stream = h.stream ∙ sym same.stream;
          draws = same.draws ∙ h.draws;
          missed = same.missed ∙ h.missed;
          agrees = agreed.agrees h.agrees;
          room = agreed.room ∙ h.room ∙ sym agreed.count;
          marks = same.marks ∙ h.marks;
        };
        emits = subst (λ e. Emits gave first.emitter.now e (item_pieces c.items)) (sym same.emitter) shows.emits;
        violation = same.violation ∙ shows.violation;
        domain = same.domain ∙ shows.domain;
        regime = subst (λ (r : Regime). IsRegimeFor c.regime r) (sym same.regime) shows.regime;
        tracks = tracks_on first.memory.now begun.memory.now new.memory.now (space_in new.regime) c.events (Drop domain r ∷ [])
            (respaced first.memory.now begun.memory.now (space_in begun.regime) (space_in new.regime) c.events (ap space_in regime) sees.tracks)
            (tracks_drop begun.memory.now new.memory.now (space_in new.regime) domain r tracks);
        spends = spends_looks (let looks = looks_then c.events (Drop domain r ∷ []) in omega (arith, looks))
            (spends_more (0 + 0) 0 (reads_due (asked_by (space_in old.regime) c) + 0) (reads_due (asked_by (space_in new.regime) (record c { events = c.events ++ Drop domain r ∷ [] })))
            (spent_in first.memory.now) (spent_in new.memory.now)
            (let further = due_events (space_in new.regime) c.events (Drop domain r ∷ []) c.items in omega (arith, further))
            (spends_then 0 0 (reads_due (asked_by (space_in old.regime) c)) 0 (spent_in first.memory.now) (spent_in old.memory.now) (spent_in new.memory.now)
            shows.spends (spends_still old.memory.now new.memory.now reads (ap (λ (t : Table). t.counts.misses) shadows))));
        maps = maps_on first.memory.now old.memory.now new.memory.now (space_in new.regime) c.events (Drop domain r ∷ [])
            (maps_of first.memory.now old.memory.now (space_in old.regime) (space_in new.regime) c.events (ap space_in same.regime) shows.maps)
            (maps_still old.memory.now new.memory.now (space_in new.regime) (Drop domain r ∷ []) (maps_same old.memory.now new.memory.now shadows));
      };
    }

-- one frame more was cleared
pub cleared_next : (domain : ℕ) (marked : List Bool) (i : ℕ) (p p' : PagerState) → HoldsNoMore p p' →
    ((k : ℕ) → k < i → is_marked domain marked (owed_at p k) ≡ false) →
    is_marked domain marked (owed_at p' i) ≡ false → (k : ℕ) → k < i + 1 →
    is_marked domain marked (owed_at p' k) ≡ false
cleared_next domain marked i p p' less before here k lt = elim (same_or_not k i) [
  | inl same ↦ ap (λ n. is_marked domain marked (owed_at p' n)) same ∙ here
  | inr other ↦ unmarked_still domain marked k p p' less (before k (omega (arith, lt, other)))
]

-- one frame more was emptied
pub away_next : (domain r i : ℕ) (p p' : PagerState) → HoldsNoMore p p' →
    ((k : ℕ) → k < i → (q : PageId) → held_in p k ≡ Some q → is_of domain r q ≡ false) →
    ((q : PageId) → held_in p' i ≡ Some q → is_of domain r q ≡ false) → (k : ℕ) → k < i + 1 → (q : PageId) →
    held_in p' k ≡ Some q → is_of domain r q ≡ false
away_next domain r i p p' less before here k lt q e = elim (same_or_not k i) [
  | inl same ↦ here q (subst (λ (n : ℕ). held_in p' n ≡ Some q) same e)
  | inr other ↦ before k (omega (arith, lt, other)) q (less.held k q e)
]
