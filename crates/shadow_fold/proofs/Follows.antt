-- The table of shadow entries follows the fold over the events.
use Rattle.std.proofs.Common.{◌≡◌, ◌/◌, ◌==◌, ◌⊎◌, ℕ, nat_le, Bool, true, false, not, ◌&&◌, ◌||◌, List, [], ◌∷◌, length, filter, if◌then◌else◌, Option, Some, None, is_some, inl, inr, refl, sym, ap, subst, ◌∙◌}
use Rattle.std.specs.List.{list_any}
use Rattle.std.proofs.lemmas.Bool.{true≢false, false≢true, and_parts}
use Rattle.std.proofs.lemmas.Bool.Decides.{eqb_tells}
use Rattle.cloak_base.specs.Pages.{same_page, is_of}
use Rattle.cloak_base.specs.declared.names.Frame.{Frame}
use Rattle.cloak_base.specs.declared.names.Kind.{Kind}
use Rattle.cloak_base.specs.declared.names.PageId.{PageId}
use Rattle.cloak_base.specs.declared.names.SpaceId.{SpaceId}
use Rattle.shadow_fold.specs.declared.entry.Entry.{Entry}
use Rattle.shadow_fold.specs.declared.entry.Regime.{Regime}
use Rattle.shadow_fold.specs.Entries.{is_for, is_target, is_table, is_frame, is_of_space}
use Rattle.shadow_fold.specs.Table.{Table, one_more, is_known, looked, ending, killed, emptied, with_room, with_live, born}
use Rattle.cloak_model.specs.Events.{Event, Look, Touch, Offer, Born, Read, Write, Drop, Space}
use Rattle.shadow_fold.specs.Fold.{Fold, frame, regime_in, entry_in, is_own_table, born_unless, holds, table_holds, part_holds, touched, touched_where, with_held, with_table, granted, offered, after_event, after_events}
use Rattle.shadow_fold.specs.Following.{FollowsTable, killed_if, killed_each, HasAll, AreOfferCalls, AreBirthCalls, AreBirthCallsUnless, AreCallsFor, AreCallsForAll, CallsFollow}
use Rattle.shadow_fold.proofs.Counting.{same_from_permutation, same_cons, passing, same_filter, same_any, same_length}

follows_look : (v : Regime) (page : ℕ) (kind : Kind) (t u : Table) → FollowsTable t u → FollowsTable (looked v page kind t) (looked v page kind u)
unfolding looked is_known
follows_look v page kind t u f = record {
  live = f.live;
  counts = λ i. record (f.counts i) {
    accesses = one_more (f.counts i).accesses;
    misses = if known i then (f.counts i).misses else one_more (f.counts i).misses;
  };
}
  where
    known : list_any (is_for v page kind) t.live ≡ list_any (is_for v page kind) u.live
    known = same_any (is_for v page kind) _ _ f.live

follows_end : (ends : Entry → Bool) (t u : Table) → FollowsTable t u → FollowsTable (ending ends t) (ending ends u)
unfolding ending
follows_end ends t u f = record { live = same_filter _ _ _ f.live; counts = f.counts }

pub follows_kill : (f : Frame) (t u : Table) → FollowsTable t u → FollowsTable (killed f t) (killed f u)
follows_kill f t u g = follows_end (is_table f) _ _ (follows_end (is_target f) t u g)

follows_kill_if : (b : Bool) (f : Frame) (t u : Table) → FollowsTable t u → FollowsTable (killed_if b f t) (killed_if b f u)
follows_kill_if true f t u g = follows_kill f t u g
follows_kill_if false f t u g = g

follows_room : (t u : Table) → FollowsTable t u → FollowsTable (with_room t) (with_room u)
unfolding with_room emptied
follows_room t u f = by_test (nat_le 1024 (length t.live)) (nat_le 1024 (length u.live)) (ap (nat_le 1024) (same_length _ _ f.live))
  where
    by_test : (a b : Bool) → a ≡ b → FollowsTable (if a then emptied t else t) (if b then emptied u else u)
    by_test true true e =
        record { live = λ p. refl; counts = λ i. record (f.counts i) { flushes = one_more (f.counts i).flushes } }
    by_test true false e = absurd (true≢false e)
    by_test false true e = absurd (false≢true e)
    by_test false false e = f

-- an entry that was not known is inserted, and one that was known stays
follows_birth : (e : Entry) (t u t' : Table) → FollowsTable t u → AreBirthCalls (is_known e.regime e.page e.kind t) e t t' → FollowsTable t' (born e u)
unfolding born is_known
follows_birth e t u t' f calls =
    by_test (list_any (is_for e.regime e.page e.kind) t.live) (list_any (is_for e.regime e.page e.kind) u.live)
    (same_any (is_for e.regime e.page e.kind) _ _ f.live) calls
  where
    by_test : (a b : Bool) → a ≡ b → AreBirthCalls a e t t'
        → FollowsTable t' (if b then u else with_live (e ∷ (with_room u).live) (with_room u))
    by_test true true same calls = subst (λ t. FollowsTable t u) (sym calls) f
    by_test true false same calls = absurd (true≢false same)
    by_test false true same calls = absurd (false≢true same)
    by_test false false same calls =
        let r = follows_room t u f in
        record {
          live = λ p. sym (same_from_permutation _ _ calls.0 p) ∙ same_cons e (with_room t).live (with_room u).live r.live p;
          counts = ap (λ t. t.counts) calls.1 ∙ r.counts;
        }

-- Both kills of a frame end what leads to it or through it.

abbrev is_part : Frame → Entry → Bool
is_part f e = is_target f e || is_table f e

filter_like : (p q : Entry → Bool) (xs : List Entry) → ((e : Entry) → p e ≡ q e) → filter p xs ≡ filter q xs
filter_like p q [] same = refl
filter_like p q (e ∷ xs) same = (λ i. if same e i then e ∷ filter p xs else filter p xs) ∙ ap (λ l. if q e then e ∷ l else l) (filter_like p q xs same)

twice : (a b : Bool) (e : Entry) (us vs : List Entry) (q : Entry → Bool) → b ≡ q e → filter (λ x. not (q x)) us ≡ vs
    → filter (λ x. not (q x)) (if not a then e ∷ us else us) ≡ (if not (a || b) then e ∷ vs else vs)
twice true b e us vs q is same = same
twice false b e us vs q is same = ap (λ c. if not c then e ∷ filter (λ x. not (q x)) us else filter (λ x. not (q x)) us) (sym is) ∙ ap (λ l. if not b then e ∷ l else l) same

filter_twice : (p q : Entry → Bool) (xs : List Entry) → filter (λ x. not (q x)) (filter (λ x. not (p x)) xs) ≡ filter (λ x. not (p x || q x)) xs
filter_twice p q [] = refl
filter_twice p q (e ∷ xs) = twice (p e) (q e) e (filter (λ x. not (p x)) xs) (filter (λ x. not (p x || q x)) xs) q refl (filter_twice p q xs)

-- entries end by one test and then by another
pub ending_twice : (p q : Entry → Bool) (t : Table) → ending q (ending p t) ≡ ending (λ e. p e || q e) t
unfolding ending
ending_twice p q t = λ i. record t { live = filter_twice p q t.live i }

pub ending_like : (p q : Entry → Bool) (t : Table) → ((e : Entry) → p e ≡ q e) → ending p t ≡ ending q t
unfolding ending
ending_like p q t same = λ i. record t { live = filter_like (λ e. not (p e)) (λ e. not (q e)) t.live (λ e. ap not (same e)) i }

filter_all : (xs : List Entry) → filter (λ e. true) xs ≡ xs
filter_all [] = refl
filter_all (e ∷ xs) = ap (λ l. e ∷ l) (filter_all xs)

pub ending_none : (t : Table) → ending (λ e. false) t ≡ t
unfolding ending
ending_none t = λ i. record t { live = filter_all t.live i }

module _ (held : ℕ → Option PageId) (passes : PageId → Bool) where
  -- a frame of the list holds a page that passes, and is a part of the entry
  abbrev ends_by : List Frame → Entry → Bool
  ends_by fs e = list_any (λ f. holds passes (held f.0) && is_part f e) fs

  killed_by : (b : Bool) (f : Frame) (t : Table) → killed_if b f t ≡ ending (λ e. b && is_part f e) t
  killed_by true f t = ending_twice (is_target f) (is_table f) t
  killed_by false f t = sym (ending_none t)

  each_ends : (fs : List Frame) (t : Table) → killed_each held passes fs t ≡ ending (ends_by fs) t
  each_ends [] t = sym (ending_none t)
  each_ends (f ∷ fs) t =
      each_ends fs (killed_if (holds passes (held f.0)) f t)
      ∙ (ap (ending (ends_by fs)) (killed_by (holds passes (held f.0)) f t)
      ∙ ending_twice (λ e. holds passes (held f.0) && is_part f e) (ends_by fs) t)

  eqb_to : (x y : ℕ) → (x == y) ≡ true → x ≡ y
  eqb_to x y e = elim (eqb_tells x y) [ inl h ↦ h.1 | inr h ↦ absurd (false≢true (sym h.0 ∙ e)) ]

  or_true : (a b : Bool) → (a || b) ≡ true → (a ≡ true) ⊎ (b ≡ true)
  or_true true b e = inl refl
  or_true false b e = inr e

  or_left : (a b : Bool) → a ≡ true → (a || b) ≡ true
  or_left a b e = ap (λ c. c || b) e

  or_right : (a b : Bool) → b ≡ true → (a || b) ≡ true
  or_right true b e = refl
  or_right false b e = e

  same_truth : (a b : Bool) → (a ≡ true → b ≡ true) → (b ≡ true → a ≡ true) → a ≡ b
  same_truth true b f g = sym (f refl)
  same_truth false true f g = absurd (false≢true (g refl))
  same_truth false false f g = refl

  -- a part of the entry that holds such a page
  table_part : (f : Frame) (o : Option Frame) → holds passes (held f.0) ≡ true → is_frame f o ≡ true → table_holds held passes o ≡ true
  table_part f None passing is = absurd (false≢true is)
  table_part f (Some x) passing is = ap (λ y. holds passes (held y)) (eqb_to x.0 f.0 is) ∙ passing

  part_from : (f : Frame) (e : Entry) → holds passes (held f.0) ≡ true → is_part f e ≡ true → part_holds held passes e ≡ true
  unfolding is_target is_table part_holds
  part_from f e passing is = elim (or_true _ _ is) [
    | inl t ↦ or_left _ _ (ap (λ y. holds passes (held y)) (eqb_to e.frame.0 f.0 t) ∙ passing)
    | inr t ↦ or_right (holds passes (held e.frame.0)) _ (elim (or_true _ _ t) [
      | inl one ↦ or_left _ _ (table_part f e.pt1 passing one)
      | inr two ↦ or_right (table_holds held passes e.pt1) _ (table_part f e.pt0 passing two)
    ])
  ]

  some_part : (fs : List Frame) (e : Entry) → ends_by fs e ≡ true → part_holds held passes e ≡ true
  some_part [] e is = absurd (false≢true is)
  some_part (f ∷ fs) e is = elim (or_true _ _ is) [
    | inl h ↦ let both = and_parts _ _ h in part_from f e both.0 both.1
    | inr h ↦ some_part fs e h
  ]

  eqb_self : (x : ℕ) → (x == x) ≡ true
  eqb_self x = elim (eqb_tells x x) [ inl h ↦ h.0 | inr h ↦ absurd (h.1 refl) ]

  -- a frame that holds such a page stands in the list, so what it is a part of ends
  ends_from : (x : ℕ) (fs : List Frame) (e : Entry) → holds passes (held x) ≡ true → is_part (record { 0 = x }) e ≡ true
      → list_any (λ g. g.0 == x) fs ≡ true → ends_by fs e ≡ true
  ends_from x [] e passing is there = absurd (false≢true there)
  ends_from x (f ∷ fs) e passing is there = elim (or_true _ _ there) [
    | inl h ↦ let same : x ≡ f.0 = sym (eqb_to f.0 x h) in or_left _ _ (λ i. subst (λ y. (holds passes (held y) && is_part (record { 0 = y }) e) ≡ true) same (λ j. passing j && is j) i)
    | inr h ↦ or_right (holds passes (held f.0) && is_part f e) _ (ends_from x fs e passing is h)
  ]

  target_is : (e : Entry) → is_part e.frame e ≡ true
  unfolding is_target
  target_is e = or_left _ _ (eqb_self e.frame.0)

  table_ends : (fs : List Frame) (e : Entry) (o : Option Frame) → HasAll held passes fs
      → ((f : Frame) → is_frame f o ≡ true → is_part f e ≡ true) → table_holds held passes o ≡ true → ends_by fs e ≡ true
  table_ends fs e None all is h = absurd (false≢true h)
  table_ends fs e (Some x) all is h = ends_from x.0 fs e h (is x (eqb_self x.0)) (all x.0 h)

  ends_all : (fs : List Frame) (e : Entry) → HasAll held passes fs → part_holds held passes e ≡ true → ends_by fs e ≡ true
  unfolding is_table part_holds
  ends_all fs e all is = elim (or_true _ _ is) [
    | inl t ↦ ends_from e.frame.0 fs e t (target_is e) (all e.frame.0 t)
    | inr t ↦ elim (or_true _ _ t) [
      | inl one ↦ table_ends fs e e.pt1 all (λ f h. or_right (is_target f e) _ (or_left _ _ h)) one
      | inr two ↦ table_ends fs e e.pt0 all (λ f h. or_right (is_target f e) _ (or_right (is_frame f e.pt1) _ h)) two
    ]
  ]

  -- the frames of a list that has all are killed: what such a frame is a part of ends
  pub each_is_all : (fs : List Frame) (t : Table) → HasAll held passes fs → killed_each held passes fs t ≡ ending (part_holds held passes) t
  each_is_all fs t all =
      each_ends fs t ∙ ending_like (ends_by fs) (part_holds held passes) t (λ e. same_truth _ _ (some_part fs e) (ends_all fs e all))

-- The events.

with_table_if : (b : Bool) (f : Frame) (q : Option PageId) (s : Fold)
    → (if b then with_held f q (with_table (killed f s.table) s) else s).table ≡ killed_if b f s.table
with_table_if true f q s = refl
with_table_if false f q s = refl

follows_touch : (f : Frame) (s : Fold) (t : Table) → FollowsTable t s.table → FollowsTable (killed_if (is_some (s.held f.0)) f t) (touched f s).table
unfolding touched
follows_touch f s t g =
    subst (FollowsTable (killed_if (is_some (s.held f.0)) f t)) (sym (with_table_if (is_some (s.held f.0)) f None s))
    (follows_kill_if (is_some (s.held f.0)) f t s.table g)

follows_all : (passes : PageId → Bool) (fs : List Frame) (s : Fold) (t : Table) → HasAll s.held passes fs → FollowsTable t s.table
    → FollowsTable (killed_each s.held passes fs t) (touched_where passes s).table
unfolding touched_where
follows_all passes fs s t all g =
    subst (λ u. FollowsTable u (ending (part_holds s.held passes) s.table)) (sym (each_is_all s.held passes fs t all))
    (follows_end (part_holds s.held passes) t s.table g)

follows_offer : (q : PageId) (g : Frame) (grant : Bool) (s : Fold) (t t' : Table) → FollowsTable t s.table
    → AreOfferCalls (holds (same_page q) (s.held g.0)) q g grant s t t' → FollowsTable t' (offered q g grant s).table
unfolding offered
follows_offer q g grant s t t' f calls = by_test (holds (same_page q) (s.held g.0)) calls
  where
    s' : Fold
    s' = touched_where (same_page q) (touched g s)

    by_test : (b : Bool) → AreOfferCalls b q g grant s t t' → FollowsTable t' (if b then s else granted q g grant s').table
    by_test true calls = subst (λ u. FollowsTable u s.table) (sym calls) f
    by_test false calls =
        let fs = calls.0 in
        let t1 = killed_if (is_some (s.held g.0)) g t in
        let t2 = killed_each (touched g s).held (same_page q) fs t1 in
        let h : FollowsTable t2 s'.table = follows_all (same_page q) fs (touched g s) t1 calls.1 (follows_touch g s t f) in
        subst (λ u. FollowsTable u (granted q g grant s').table) (sym calls.2)
        (subst (FollowsTable (killed_if grant g t2)) (sym (with_table_if grant g (Some q) s')) (follows_kill_if grant g t2 s'.table h))

follows_birth_unless : (b : Bool) (e : Entry) (t u t' : Table) → FollowsTable t u → AreBirthCallsUnless b e t t' → FollowsTable t' (born_unless b e u)
follows_birth_unless true e t u t' f calls = subst (λ x. FollowsTable x u) (sym calls) f
follows_birth_unless false e t u t' f calls = follows_birth e t u t' f calls

module _ (space : Option SpaceId) where
  pub follows_event : (e : Event) (s : Fold) (t t' : Table) → FollowsTable t s.table → AreCallsFor space e s t t' → FollowsTable t' (after_event space e s).table
  unfolding after_event
  follows_event (Look satp a) s t t' f calls =
      let regime = regime_in space satp a in
      subst (λ u. FollowsTable u (looked regime (a.va / 4096) a.kind s.table)) (sym calls) (follows_look regime (a.va / 4096) a.kind t s.table f)
  follows_event (Touch g) s t t' f calls = subst (λ u. FollowsTable u (touched (frame g) s).table) (sym calls) (follows_touch (frame g) s t f)
  follows_event (Offer q g grant) s t t' f calls = follows_offer q (frame g) grant s t t' f calls
  follows_event (Born satp a walked cloaked) s t t' f calls =
      let e = entry_in space satp a walked cloaked in follows_birth_unless (is_own_table e) e t s.table t' f calls
  follows_event (Read g) s t t' f calls = subst (λ u. FollowsTable u s.table) (sym calls) f
  follows_event (Write g) s t t' f calls = subst (λ u. FollowsTable u (ending (is_table (frame g)) s.table)) (sym calls) (follows_end _ t s.table f)
  follows_event (Drop d resource) s t t' f calls = subst (λ u. FollowsTable u (touched_where (is_of d resource) s).table) (sym calls.2) (follows_all (is_of d resource) calls.0 s t calls.1 f)
  follows_event (Space changed) s t t' f calls = subst (λ u. FollowsTable u (ending (is_of_space changed) s.table)) (sym calls) (follows_end (is_of_space changed) t s.table f)

  follows_all_events : (events : List Event) (s : Fold) (t t' : Table) → FollowsTable t s.table → AreCallsForAll space events s t t' → FollowsTable t' (after_events space events s).table
  unfolding after_events
  follows_all_events [] s t t' f calls = subst (λ u. FollowsTable u s.table) (sym calls) f
  follows_all_events (e ∷ events) s t t' f calls = follows_all_events events (after_event space e s) calls.0 t' (follows_event e s t calls.0 f calls.1) calls.2

pub follows_events : CallsFollow
follows_events space events s t t' f calls = follows_all_events space events s t t' f calls
