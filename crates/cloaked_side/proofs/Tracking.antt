-- A memory goes on with the fold through each event.
use Rattle.std.proofs.Common.{◌≡◌, ◌+◌, ◌≢◌, ◌∙◌, ◌==◌, ℕ, zero, suc, ◌/◌, ◌<◌, ◌≤◌, arith, Bool, true, false, ◌||◌, cond, if◌then◌else◌, List, [], ◌∷◌, ◌++◌, Option, Some, None, is_some, inl, inr, refl, sym, ap, subst}
use Rattle.std.specs.List.{list_any}
use Rattle.std.specs.Prelude.{IfSome}
use Rattle.std.proofs.lemmas.Bool.{false≢true, eq-eqb, cases_lt}
use Rattle.std.proofs.lemmas.Bool.Decides.{eqb_tells}
use Rattle.cloak_base.specs.Pages.{same_page, is_of}
use Rattle.cloak_base.specs.declared.names.Frame.{Frame}
use Rattle.cloak_base.specs.declared.names.PageId.{PageId}
use Rattle.cloak_base.specs.declared.names.SpaceId.{SpaceId}
use Rattle.cloak_model.specs.declared.access.Access.{Access}
use Rattle.cloak_model.specs.AskPages.{offer_events}
use Rattle.cloak_model.specs.Cloaking.{CloakedMemory, settle}
use Rattle.cloak_model.specs.Events.{Event, Look, Touch, Offer, Born, Read, Write, Drop}
use Rattle.cloak_base.specs.declared.names.Kind.{Kind}
use Rattle.cloak_model.specs.declared.access.Walked.{Walked}
use Rattle.shadow_fold.specs.declared.entry.Entry.{Entry}
use Rattle.shadow_fold.specs.declared.entry.Regime.{Regime}
use Rattle.shadow_fold.specs.declared.entry.Regime.TheVariants.{Outside, Inside}
use Rattle.shadow_fold.specs.Agreement.{satp_in, access_in}
use Rattle.shadow_law.specs.Agreeing.{touches}
use Rattle.shadow_law.specs.Walks.{listed}
use Rattle.cloaked_side.specs.Leading.{IsRegimeIn}
use Rattle.shadow_fold.specs.Entries.{is_table}
use Rattle.shadow_fold.specs.Fold.{Fold, frame, entry_in, is_own_table, holds, part_holds, touched, touched_where, with_held, with_table, offered, granted, after_event, after_events}
use Rattle.shadow_fold.specs.Following.{FollowsTable, killed_if, killed_each, HasAll, AreBirthCalls, AreBirthCallsUnless, AreCallsFor}
use Rattle.shadow_fold.specs.Table.{Table, is_known, looked, ending, killed}
use Rattle.shadow_fold.proofs.Follows.{follows_event, follows_kill, each_is_all}
use Rattle.cloak_base.specs.Random.{Random}
use Rattle.cloak_pager.specs.State.{PagerState, page_of, right_at, held_in}
use Rattle.cloak_pager.specs.Turns.{touched_by, IsReadOnce, StaysBut}
use Rattle.cloak_pager.specs.declared.frame_right.FrameRight.{FrameRight}
use Rattle.cloak_pager.specs.declared.frame_right.FrameRight.TheVariants as held
use Rattle.cloak_pager.specs.declared.touching.Touched.TheVariants.{Quiet}
use Rattle.cloaked_side.specs.declared.memory.Memory.{Memory}
use Rattle.cloaked_side.proofs.Translating.{quiet_held}
use Rattle.cloaked_side.specs.Tracking.{KeepsFold, Tracks, TracksBy, room_made, touched_if}
use Rattle.shadow_law.proofs.Tables.{held_page, not_holding_page}
use Rattle.shadow_law.proofs.Changes.{holds_self}

-- events one after another
pub events_then : (space : Option SpaceId) (es fs : List Event) (s : Fold) → after_events space (es ++ fs) s ≡ after_events space fs (after_events space es s)
unfolding after_events
events_then space [] fs s = refl
events_then space (e ∷ es) fs s = events_then space es fs (after_event space e s)

pub no_events : (space : Option SpaceId) (s : Fold) → s ≡ after_events space [] s
unfolding after_events
no_events space s = refl

-- the calls of an event, and what frames hold after it
pub goes_on : (space : Option SpaceId) (e : Event) (c : Bool) (t t' : Table) (held held' : ℕ → Option PageId) (s : Fold) → KeepsFold c t held s
    → (c ≡ true → AreCallsFor space e s t t') → ((f : ℕ) → held' f ≡ (after_event space e s).held f) → KeepsFold c t' held' (after_event space e s)
goes_on space e c t t' held held' s keeps calls pages = record {
  pages = pages;
  entries = λ counts. follows_event space e s t t' (keeps.entries counts) (calls counts);
}

-- A frame is touched.

-- this frame holds nothing, and all others what they held
abbrev pub emptied_at : ℕ → (ℕ → Option PageId) → ℕ → Option PageId
emptied_at f held k = cond (k == f) None (held k)

-- what frames hold in the fold after a touch
pub touched_held : (f : ℕ) (s : Fold) (o : Option PageId) → s.held f ≡ o → (k : ℕ) → (touched (frame f) s).held k ≡ emptied_at f s.held k
unfolding touched
touched_held f s None is k =
    ap (λ (b : Bool). (cond b (with_held (frame f) None (with_table (killed (frame f) s.table) s)) s).held k) (ap is_some is) ∙ by
  where
    by : s.held k ≡ emptied_at f s.held k
    by = elim (eqb_tells k f) [
      | inl h ↦ (ap s.held h.1 ∙ is) ∙ ap (λ (b : Bool). cond b None (s.held k)) (sym h.0)
      | inr h ↦ ap (λ (b : Bool). cond b None (s.held k)) (sym h.0)
    ]
touched_held f s (Some q) is k =
    ap (λ (b : Bool). (cond b (with_held (frame f) None (with_table (killed (frame f) s.table) s)) s).held k) (ap is_some is)

pub emptied_is : (f : ℕ) (held held' : ℕ → Option PageId) → held' f ≡ None → ((k : ℕ) → k ≢ f → held' k ≡ held k) → (k : ℕ) → held' k ≡ emptied_at f held k
emptied_is f held held' outside others k = elim (eqb_tells k f) [
  | inl h ↦ (ap held' h.1 ∙ outside) ∙ ap (λ (b : Bool). cond b None (held k)) (sym h.0)
  | inr h ↦ others k h.1 ∙ ap (λ (b : Bool). cond b None (held k)) (sym h.0)
]

goes_on_touch : (c : Bool) (t t' : Table) (held held' : ℕ → Option PageId) (s : Fold) (f : ℕ) → KeepsFold c t held s
    → t' ≡ killed_if (is_some (held f)) (frame f) t → held' f ≡ None → ((k : ℕ) → k ≢ f → held' k ≡ held k)
    → KeepsFold c t' held' (touched (frame f) s)
unfolding after_event
goes_on_touch c t t' held held' s f keeps calls outside others =
    goes_on None (Touch f) c t t' held held' s keeps
    (λ counts. subst (λ (o : Option PageId). t' ≡ killed_if (is_some o) (frame f) t) (keeps.pages f) calls)
    (λ k. emptied_is f held held' outside others k ∙ ap (λ (o : Option PageId). cond (k == f) None o) (keeps.pages k) ∙ sym (touched_held f s (s.held f) refl k))

pub settle_tracks : (p p' : PagerState) (c c' : Bool) (t t' : Table) (f : ℕ) → t' ≡ killed_if (is_some (held_in p f)) (frame f) t → c' ≡ c
    → held_in p' f ≡ None → ((k : ℕ) → k ≢ f → held_in p' k ≡ held_in p k)
    → (s : Fold) → KeepsFold c t (held_in p) s → KeepsFold c' t' (held_in p') (touched (frame f) s)
settle_tracks p p' c c' t t' f ends counts outside others s keeps =
    subst (λ (x : Bool). KeepsFold x t' (held_in p') (touched (frame f) s)) (sym counts)
    (goes_on_touch c t t' (held_in p) (held_in p') s f keeps ends outside others)

-- what the end of a touch tells of the page that the frame held
loud_holds : (h : FrameRight) (draw : Option (List ℕ × Random)) → touched_by h draw ≢ Quiet → is_some (page_of h) ≡ true
loud_holds (held.Outside r) draw n = absurd (n refl)
loud_holds (held.Clean r) draw n = refl
loud_holds (held.Changed r) draw n = refl
loud_holds held.Spent draw n = absurd (n refl)

pub quiet_ends : (p : PagerState) (f : ℕ) (draw : Option (List ℕ × Random)) (t : Table) → Quiet ≡ touched_by (right_at p f) draw → t ≡ killed_if (is_some (held_in p f)) (frame f) t
quiet_ends p f draw t is = ap (λ (o : Option PageId). killed_if (is_some o) (frame f) t) (sym (quiet_held (right_at p f) draw is).0)

pub loud_ends : (p : PagerState) (f : ℕ) (draw : Option (List ℕ × Random)) (t : Table) → touched_by (right_at p f) draw ≢ Quiet → killed (frame f) t ≡ killed_if (is_some (held_in p f)) (frame f) t
loud_ends p f draw t n = ap (λ (b : Bool). killed_if b (frame f) t) (sym (loud_holds (right_at p f) draw n))

-- a pager that was read holds what it held
pub read_held : (old new : PagerState) → IsReadOnce old new → (k : ℕ) → held_in new k ≡ held_in old k
read_held old new read k = ap (λ (p : PagerState). held_in p k) read

-- Page q is offered in frame g.

-- nobody holds the page: the frames that hold it are none
pub goes_on_none : (c : Bool) (t : Table) (held : ℕ → Option PageId) (q : PageId) (s : Fold) → ((k : ℕ) → held k ≢ Some q) → KeepsFold c t held s
    → KeepsFold c t held (touched_where (same_page q) s)
unfolding touched_where
goes_on_none c t held q s nowhere keeps = record {
  pages = λ k. keeps.pages k ∙ ap (λ (b : Bool). cond b None (s.held k)) (sym (not_holding_page q (s.held k) (away k)));
  entries = λ counts. subst (λ (u : Table). FollowsTable t u) (each_is_all s.held (same_page q) [] s.table none) (keeps.entries counts);
}
  where
    away : (k : ℕ) → s.held k ≢ Some q
    away k is = nowhere k (keeps.pages k ∙ is)

    none : HasAll s.held (same_page q) []
    none f is = absurd (away f (held_page q (s.held f) is))

-- One frame holds the page: the frames that hold it are that one.
pub goes_on_home : (c c' : Bool) (t t' : Table) (held held' : ℕ → Option PageId) (q : PageId) (f : ℕ) (s : Fold) → KeepsFold c t held s → held f ≡ Some q
    → ((k : ℕ) → held k ≡ Some q → k ≡ f) → KeepsFold c' t' held' (touched (frame f) s) → KeepsFold c' t' held' (touched_where (same_page q) s)
unfolding touched touched_where
goes_on_home c c' t t' held held' q f s before home one keeps = record {
  pages = λ k. keeps.pages k ∙ touched_held f s (s.held f) refl k ∙ by k;
  entries = λ counts. subst (λ (u : Table). FollowsTable t' u) table (keeps.entries counts);
}
  where
    here : s.held f ≡ Some q
    here = sym (before.pages f) ∙ home

    all : HasAll s.held (same_page q) (frame f ∷ [])
    all k is = ap (λ (n : ℕ). (f == n) || false) (one k (before.pages k ∙ held_page q (s.held k) is)) ∙ ap (λ (b : Bool). b || false) (eq-eqb f f refl)

    table : (cond (is_some (s.held f)) (with_held (frame f) None (with_table (killed (frame f) s.table) s)) s).table ≡ ending (part_holds s.held (same_page q)) s.table
    table =
        ap (λ (o : Option PageId). (cond (is_some o) (with_held (frame f) None (with_table (killed (frame f) s.table) s)) s).table) here
        ∙ ap (λ (b : Bool). killed_if b (frame f) s.table) (sym (holds_self q (s.held f) here))
        ∙ each_is_all s.held (same_page q) (frame f ∷ []) s.table all

    by : (k : ℕ) → emptied_at f s.held k ≡ cond (holds (same_page q) (s.held k)) None (s.held k)
    by k = elim (eqb_tells k f) [
      | inl h ↦ ap (λ (b : Bool). cond b None (s.held k)) (h.0 ∙ sym (holds_self q (s.held k) (ap s.held h.1 ∙ here)))
      | inr h ↦ ap (λ (b : Bool). cond b None (s.held k)) (h.0 ∙ sym (not_holding_page q (s.held k) (λ is. h.1 (one k (before.pages k ∙ is)))))
    ]

-- what an offer is, by whether the frame holds the page

pub offered_again : (q : PageId) (g : ℕ) (grant : Bool) (s : Fold) → s.held g ≡ Some q → offered q (frame g) grant s ≡ s
unfolding offered
offered_again q g grant s is =
    ap (λ (b : Bool). cond b s (granted q (frame g) grant (touched_where (same_page q) (touched (frame g) s)))) (holds_self q (s.held g) is)

pub offered_new : (q : PageId) (g : ℕ) (grant : Bool) (s : Fold) → s.held g ≢ Some q
    → offered q (frame g) grant s ≡ granted q (frame g) grant (touched_where (same_page q) (touched (frame g) s))
unfolding offered
offered_new q g grant s n =
    ap (λ (b : Bool). cond b s (granted q (frame g) grant (touched_where (same_page q) (touched (frame g) s)))) (not_holding_page q (s.held g) n)

-- the frame holds the page now
pub goes_on_granted : (c : Bool) (t t' : Table) (held held' : ℕ → Option PageId) (q : PageId) (g : ℕ) (s : Fold) → KeepsFold c t held s
    → t' ≡ killed (frame g) t → held' g ≡ Some q → ((k : ℕ) → k ≢ g → held' k ≡ held k) → KeepsFold c t' held' (granted q (frame g) true s)
goes_on_granted c t t' held held' q g s keeps ends here others = record {
  pages = pages;
  entries = λ counts. subst (λ (u : Table). FollowsTable u (killed (frame g) s.table)) (sym ends) (follows_kill (frame g) t s.table (keeps.entries counts));
}
  where
    pages : (k : ℕ) → held' k ≡ cond (k == g) (Some q) (s.held k)
    pages k = elim (eqb_tells k g) [
      | inl h ↦ (ap held' h.1 ∙ here) ∙ ap (λ (b : Bool). cond b (Some q) (s.held k)) (sym h.0)
      | inr h ↦ (others k h.1 ∙ keeps.pages k) ∙ ap (λ (b : Bool). cond b (Some q) (s.held k)) (sym h.0)
    ]

-- the same pages are held in another way of telling them
pub goes_on_same : (c : Bool) (t : Table) (held held' : ℕ → Option PageId) (s : Fold) → KeepsFold c t held s → ((k : ℕ) → held' k ≡ held k) → KeepsFold c t held' s
goes_on_same c t held held' s keeps same = record { pages = λ k. same k ∙ keeps.pages k; entries = keeps.entries }

-- Room is made.

pub room_missed : (c c' : Bool) (t t' : Table) (held held' : ℕ → Option PageId) (q : PageId) (g : ℕ) (m : CloakedMemory) → (settle g m).missed ≡ true
    → ((s : Fold) → KeepsFold c t held s → KeepsFold c' t' held' (touched (frame g) s)) → (s : Fold) → KeepsFold c t held s → KeepsFold c' t' held' (room_made q g m s)
room_missed c c' t t' held held' q g m missed tracks s keeps =
    subst (λ (b : Bool). KeepsFold c' t' held' (cond b (touched (frame g) s) (touched_where (same_page q) (touched (frame g) s)))) (sym missed) (tracks s keeps)

pub room_drawn : (c c' : Bool) (t t' : Table) (held held' : ℕ → Option PageId) (q : PageId) (g : ℕ) (m : CloakedMemory) → (settle g m).missed ≡ false
    → ((s : Fold) → KeepsFold c t held s → KeepsFold c' t' held' (touched_where (same_page q) (touched (frame g) s))) → (s : Fold) → KeepsFold c t held s → KeepsFold c' t' held' (room_made q g m s)
room_drawn c c' t t' held held' q g m drawn tracks s keeps =
    subst (λ (b : Bool). KeepsFold c' t' held' (cond b (touched (frame g) s) (touched_where (same_page q) (touched (frame g) s)))) (sym drawn) (tracks s keeps)

-- The events of an offer.

-- what an offer does to the fold, by whether it was granted
abbrev pub offer_effect : PageId → ℕ → CloakedMemory → Bool → Fold → Fold
offer_effect q g m true s = offered q (frame g) true s
offer_effect q g m false s = if (settle g m).missed then touched (frame g) s else offered q (frame g) false s

effect_is : (space : Option SpaceId) (q : PageId) (g : ℕ) (m : CloakedMemory) (granted : Bool) (s : Fold)
    → offer_effect q g m granted s ≡ after_events space (offer_events q g m granted) s
unfolding after_events after_event
effect_is space q g m true s = refl
effect_is space q g m false s = by (settle g m).missed
  where
    by : (b : Bool) → cond b (touched (frame g) s) (offered q (frame g) false s) ≡ after_events space ((if b then Touch g else Offer q g false) ∷ []) s
    by true = refl
    by false = refl

pub tracks_offer : (space : Option SpaceId) (c c' : Bool) (t t' : Table) (held held' : ℕ → Option PageId) (q : PageId)
    (g : ℕ) (m : CloakedMemory) (granted : Bool)
    → ((s : Fold) → KeepsFold c t held s → KeepsFold c' t' held' (offer_effect q g m granted s))
    → (s : Fold) → KeepsFold c t held s → KeepsFold c' t' held' (after_events space (offer_events q g m granted) s)
tracks_offer space c c' t t' held held' q g m granted tracks s keeps =
    subst (λ (u : Fold). KeepsFold c' t' held' u) (effect_is space q g m granted s) (tracks s keeps)

-- a page is offered in the frame that holds it
pub effect_again : (c : Bool) (t : Table) (held held' : ℕ → Option PageId) (q : PageId) (g : ℕ) (grant : Bool) → held g ≡ Some q → ((k : ℕ) → held' k ≡ held k)
    → (s : Fold) → KeepsFold c t held s → KeepsFold c t held' (offered q (frame g) grant s)
effect_again c t held held' q g grant is same s keeps =
    subst (λ (u : Fold). KeepsFold c t held' u) (sym (offered_again q g grant s (sym (keeps.pages g) ∙ is))) (goes_on_same c t held held' s keeps same)

-- or in another one, for which there is room
pub effect_new : (c c' : Bool) (t t' : Table) (held held' : ℕ → Option PageId) (q : PageId) (g : ℕ) (grant : Bool) → held g ≢ Some q
    → ((s : Fold) → KeepsFold c t held s → KeepsFold c' t' held' (granted q (frame g) grant (touched_where (same_page q) (touched (frame g) s))))
    → (s : Fold) → KeepsFold c t held s → KeepsFold c' t' held' (offered q (frame g) grant s)
effect_new c c' t t' held held' q g grant n tracks s keeps =
    subst (λ (u : Fold). KeepsFold c' t' held' u) (sym (offered_new q g grant s (λ is. n (keeps.pages g ∙ is)))) (tracks s keeps)

-- room was made for it, or a draw was missing then, and it was not granted
pub effect_refused : (c c' : Bool) (t t' : Table) (held held' : ℕ → Option PageId) (q : PageId) (g : ℕ) (m : CloakedMemory) → held g ≢ Some q
    → ((s : Fold) → KeepsFold c t held s → KeepsFold c' t' held' (room_made q g m s)) → (s : Fold) → KeepsFold c t held s → KeepsFold c' t' held' (offer_effect q g m false s)
effect_refused c c' t t' held held' q g m n tracks s keeps = by (settle g m).missed (tracks s keeps)
  where
    by : (b : Bool) → KeepsFold c' t' held' (cond b (touched (frame g) s) (touched_where (same_page q) (touched (frame g) s)))
        → KeepsFold c' t' held' (cond b (touched (frame g) s) (offered q (frame g) false s))
    by true keeps' = keeps'
    by false keeps' = subst (λ (u : Fold). KeepsFold c' t' held' u) (sym (offered_new q g false s (λ is. n (keeps.pages g ∙ is)))) keeps'

-- room was made for it: no draw was missing
pub room_is : (c c' : Bool) (t t' : Table) (held held' : ℕ → Option PageId) (q : PageId) (g : ℕ) (m : CloakedMemory) → (settle g m).missed ≡ false
    → ((s : Fold) → KeepsFold c t held s → KeepsFold c' t' held' (room_made q g m s)) → (s : Fold) → KeepsFold c t held s → KeepsFold c' t' held' (touched_where (same_page q) (touched (frame g) s))
room_is c c' t t' held held' q g m drawn tracks s keeps =
    subst (λ (b : Bool). KeepsFold c' t' held' (cond b (touched (frame g) s) (touched_where (same_page q) (touched (frame g) s)))) drawn (tracks s keeps)

-- a call that changed one frame at most, which holds what it held
pub same_held : (old new : PagerState) (f : ℕ) → StaysBut f old new → held_in new f ≡ held_in old f → (k : ℕ) → held_in new k ≡ held_in old k
same_held old new f stays here k = elim (eqb_tells k f) [
  | inl h ↦ subst (λ (n : ℕ). held_in new n ≡ held_in old n) (sym h.1) here
  | inr h ↦ ap page_of (stays.rights k h.1)
]

-- Calls of other kinds.

-- nothing is done to translations, nor to what frames hold
pub same_tracks : (c c' : Bool) (t t' : Table) (held held' : ℕ → Option PageId) → c' ≡ c → t' ≡ t → ((k : ℕ) → held' k ≡ held k)
    → (s : Fold) → KeepsFold c t held s → KeepsFold c' t' held' s
same_tracks c c' t t' held held' counts table same s keeps =
    subst (λ (x : Bool). KeepsFold x t' held' s) (sym counts)
    (subst (λ (u : Table). KeepsFold c u held' s) (sym table) (goes_on_same c t held held' s keeps same))

-- a byte of a frame is written
pub write_tracks : (space : Option SpaceId) (c c' : Bool) (t t' : Table) (held held' : ℕ → Option PageId) (f : Frame) (n : ℕ) → f.0 ≡ n → c' ≡ c
    → t' ≡ ending (is_table f) t → ((k : ℕ) → held' k ≡ held k) → (s : Fold) → KeepsFold c t held s → KeepsFold c' t' held' (after_events space (Write n ∷ []) s)
unfolding after_events after_event
write_tracks space c c' t t' held held' f n is counts table same s keeps =
    subst (λ (x : Bool). KeepsFold x t' held' (after_event space (Write n) s)) (sym counts)
    (goes_on space (Write n) c t t' held held' s keeps (λ on. table ∙ ap (λ (k : ℕ). ending (is_table (frame k)) t) is) (λ k. same k ∙ keeps.pages k))

-- events, and then others
pub tracks_on : (first old new : Memory) (space : Option SpaceId) (es fs : List Event) → TracksBy first old (after_events space es)
    → TracksBy old new (after_events space fs) → TracksBy first new (after_events space (es ++ fs))
tracks_on first old new space es fs before after s keeps =
    subst (λ (u : Fold). Tracks new u) (sym (events_then space es fs s)) (after (after_events space es s) (before s keeps))

pub tracks_same : (first old new : Memory) (space : Option SpaceId) (es : List Event) → TracksBy first old (after_events space es)
    → ((s : Fold) → Tracks old s → Tracks new s) → TracksBy first new (after_events space es)
tracks_same first old new space es before after s keeps = after (after_events space es s) (before s keeps)

-- one frame is touched
pub tracks_touch : (old new : Memory) (space : Option SpaceId) (f : ℕ) → TracksBy old new (touched (frame f)) → TracksBy old new (after_events space (Touch f ∷ []))
unfolding after_events after_event
tracks_touch old new space f tracks s keeps = tracks s keeps

-- a frame is read
pub tracks_read : (memory : Memory) (space : Option SpaceId) (f : ℕ) → TracksBy memory memory (after_events space (Read f ∷ []))
unfolding after_events after_event
tracks_read memory space f s keeps = keeps

-- of the same space
pub respaced : (first old : Memory) (space space' : Option SpaceId) (es : List Event) → space' ≡ space → TracksBy first old (after_events space es)
    → TracksBy first old (after_events space' es)
respaced first old space space' es same tracks = subst (λ (x : Option SpaceId). TracksBy first old (after_events x es)) (sym same) tracks

-- a resource is dropped
pub tracks_drop : (old new : Memory) (space : Option SpaceId) (domain resource : ℕ) → TracksBy old new (touched_where (is_of domain resource))
    → TracksBy old new (after_events space (Drop domain resource ∷ []))
unfolding after_events after_event
tracks_drop old new space domain resource tracks s keeps = tracks s keeps

-- Events that do nothing.

-- a frame that holds nothing is touched
pub touch_still : (c : Bool) (t : Table) (held : ℕ → Option PageId) (f : ℕ) → held f ≡ None → (s : Fold) → KeepsFold c t held s → KeepsFold c t held (touched (frame f) s)
touch_still c t held f none s keeps =
    goes_on_touch c t t held held s f keeps (ap (λ (o : Option PageId). killed_if (is_some o) (frame f) t) (sym none)) none (λ k n. refl)

-- the tables of a walk, which are outside
pub touches_still : (space : Option SpaceId) (c : Bool) (t : Table) (held : ℕ → Option PageId) (o p : Option Frame) → IfSome o (λ f. held f.0 ≡ None)
    → IfSome p (λ f. held f.0 ≡ None) → (s : Fold) → KeepsFold c t held s → KeepsFold c t held (after_events space (touches (listed o ++ listed p)) s)
unfolding after_events after_event
touches_still space c t held None None first second s keeps = keeps
touches_still space c t held None (Some g) first second s keeps = touch_still c t held g.0 second s keeps
touches_still space c t held (Some f) None first second s keeps = touch_still c t held f.0 first s keeps
touches_still space c t held (Some f) (Some g) first second s keeps =
    touch_still c t held g.0 second (touched f s) (touch_still c t held f.0 first s keeps)

-- A translation is asked for.

pub look_tracks : (space : Option SpaceId) (regime : Regime) (va : ℕ) (kind : Kind) → IsRegimeIn space regime → (c : Bool) (t t' : Table) (held : ℕ → Option PageId)
    → (c ≡ true → t' ≡ looked regime (va / 4096) kind t) → (s : Fold) → KeepsFold c t held s
    → KeepsFold c t' held (after_events space (Look (satp_in regime) (access_in regime va kind) ∷ []) s)
unfolding after_events after_event
look_tracks space (Outside satp mode sum mxr) va kind is c t t' held made s keeps =
    goes_on space (Look satp (access_in (Outside satp mode sum mxr) va kind)) c t t' held held s keeps
    (λ counts. made counts ∙ ap (λ (v : Regime). looked v (va / 4096) kind t) (sym (is va kind))) keeps.pages
look_tracks space (Inside satp sum mxr x) va kind is c t t' held made s keeps =
    goes_on space (Look satp (access_in (Inside satp sum mxr x) va kind)) c t t' held held s keeps
    (λ counts. made counts ∙ ap (λ (v : Regime). looked v (va / 4096) kind t) (sym (is va kind))) keeps.pages

-- A translation becomes known.

pub born_tracks : (space : Option SpaceId) (satp : ℕ) (a : Access) (walked : Walked) (cloaked : Option PageId) (c : Bool) (t t' : Table) (held : ℕ → Option PageId)
    → (c ≡ true → let e = entry_in space satp a walked cloaked in AreBirthCallsUnless (is_own_table e) e t t') → (s : Fold) → KeepsFold c t held s
    → KeepsFold c t' held (after_events space (Born satp a walked cloaked ∷ []) s)
unfolding after_events after_event
born_tracks space satp a walked cloaked c t t' held calls s keeps =
    goes_on space (Born satp a walked cloaked) c t t' held held s keeps calls keeps.pages

-- one that is known already, or never becomes live

pub birth_still : (e : Entry) (t : Table) → is_known e.regime e.page e.kind t ≡ true → AreBirthCallsUnless (is_own_table e) e t t
birth_still e t known = by (is_own_table e)
  where
    by : (b : Bool) → AreBirthCallsUnless b e t t
    by true = refl
    by false = subst (λ (k : Bool). AreBirthCalls k e t t) (sym known) refl

pub birth_never : (e : Entry) (t : Table) → is_own_table e ≡ true → AreBirthCallsUnless (is_own_table e) e t t
birth_never e t own = subst (λ (b : Bool). AreBirthCallsUnless b e t t) (sym own) refl

pub birth_made : (e : Entry) (t t' : Table) → is_own_table e ≡ false → AreBirthCalls (is_known e.regime e.page e.kind t) e t t' → AreBirthCallsUnless (is_own_table e) e t t'
birth_made e t t' other made = subst (λ (b : Bool). AreBirthCallsUnless b e t t') (sym other) made

-- The frames of a resource are emptied one after another.

-- those below n that hold pages that pass
unfoldable pub emptied_below : (PageId → Bool) → ℕ → Fold → Fold
emptied_below passes zero s = s
emptied_below passes (suc n) s = let s' = emptied_below passes n s in touched_if (holds passes (s'.held n)) n s'

-- the frames below n, in order
unfoldable frames_below : ℕ → List Frame
frames_below zero = []
frames_below (suc n) = frames_below n ++ frame n ∷ []

module _ (passes : PageId → Bool) (s : Fold) where
  if_held : (b : Bool) (n k : ℕ) (s' : Fold) → (touched_if b n s').held k ≡ cond b (emptied_at n s'.held k) (s'.held k)
  if_held true n k s' = touched_held n s' (s'.held n) refl k
  if_held false n k s' = refl

  -- what is not below n is as it was
  pub above : (n k : ℕ) → n ≤ k → (emptied_below passes n s).held k ≡ s.held k
  unfolding emptied_below
  above zero k low = refl
  above (suc n) k low =
      let s' = emptied_below passes n s in
      let before : n ≤ k = omega (arith, low) in
      if_held (holds passes (s'.held n)) n k s' ∙ by (holds passes (s'.held n)) ∙ above n k before
    where
      other : k ≢ n
      other is = (let clash : suc n ≤ n = subst (λ (x : ℕ). suc n ≤ x) is low in absurd (omega (arith, clash)))

      by : (b : Bool) → cond b (emptied_at n (emptied_below passes n s).held k) ((emptied_below passes n s).held k) ≡ (emptied_below passes n s).held k
      by true = elim (eqb_tells k n) [
        | inl h ↦ absurd (other h.1)
        | inr h ↦ ap (λ (b : Bool). cond b None ((emptied_below passes n s).held k)) h.0
      ]
      by false = refl

  -- what is below holds nothing that passes
  below : (n k : ℕ) → k < n → (emptied_below passes n s).held k ≡ cond (holds passes (s.held k)) None (s.held k)
  unfolding emptied_below
  below zero k low = absurd (omega (arith, low))
  below (suc n) k low =
      let s' = emptied_below passes n s in
      if_held (holds passes (s'.held n)) n k s' ∙ elim (eqb_tells k n) [
        | inl h ↦ at_last h.1
        | inr h ↦ ap_other (holds passes (s'.held n)) h.0 ∙ below n k (omega (arith, low, h.1))
      ]
    where
      ap_other : (b : Bool) → (k == n) ≡ false → cond b (emptied_at n (emptied_below passes n s).held k) ((emptied_below passes n s).held k) ≡ (emptied_below passes n s).held k
      ap_other true is = ap (λ (x : Bool). cond x None ((emptied_below passes n s).held k)) is
      ap_other false is = refl

      here : cond (holds passes ((emptied_below passes n s).held n)) (emptied_at n (emptied_below passes n s).held n) ((emptied_below passes n s).held n)
          ≡ cond (holds passes (s.held n)) None (s.held n)
      here =
          ap (λ (o : Option PageId). cond (holds passes o) (cond (n == n) None o) o) (above n n (omega arith))
          ∙ ap (λ (b : Bool). cond (holds passes (s.held n)) (cond b None (s.held n)) (s.held n)) (eq-eqb n n refl)

      at_last : k ≡ n → cond (holds passes ((emptied_below passes n s).held n)) (emptied_at n (emptied_below passes n s).held k) ((emptied_below passes n s).held k)
          ≡ cond (holds passes (s.held k)) None (s.held k)
      at_last is =
          subst (λ (x : ℕ). cond (holds passes ((emptied_below passes n s).held n)) (emptied_at n (emptied_below passes n s).held x) ((emptied_below passes n s).held x)
          ≡ cond (holds passes (s.held x)) None (s.held x)) (sym is) here

  snoc_killed : (held : ℕ → Option PageId) (fs : List Frame) (f : Frame) (t : Table) → killed_each held passes (fs ++ f ∷ []) t ≡ killed_if (holds passes (held f.0)) f (killed_each held passes fs t)
  snoc_killed held [] f t = refl
  snoc_killed held (g ∷ fs) f t = snoc_killed held fs f (killed_if (holds passes (held g.0)) g t)

  holds_some : (o : Option PageId) → holds passes o ≡ true → is_some o ≡ true
  holds_some None is = absurd (false≢true is)
  holds_some (Some q) is = refl

  table_if : (b : Bool) (n : ℕ) (s' : Fold) → (b ≡ true → is_some (s'.held n) ≡ true) → (touched_if b n s').table ≡ killed_if b (frame n) s'.table
  unfolding touched
  table_if true n s' some = ap (λ (x : Bool). (cond x (with_held (frame n) None (with_table (killed (frame n) s'.table) s')) s').table) (some refl)
  table_if false n s' some = refl

  below_table : (n : ℕ) → (emptied_below passes n s).table ≡ killed_each s.held passes (frames_below n) s.table
  unfolding frames_below emptied_below
  below_table zero = refl
  below_table (suc n) =
      let s' = emptied_below passes n s in
      table_if (holds passes (s'.held n)) n s' (holds_some (s'.held n))
      ∙ ap (λ (o : Option PageId). killed_if (holds passes o) (frame n) s'.table) (above n n (omega arith))
      ∙ ap (λ (t : Table). killed_if (holds passes (s.held n)) (frame n) t) (below_table n)
      ∙ sym (snoc_killed s.held (frames_below n) (frame n) s.table)

  any_snoc : (k : ℕ) (fs : List Frame) (f : Frame) (b : Bool) → list_any (λ g. g.0 == k) fs ≡ b → list_any (λ g. g.0 == k) (fs ++ f ∷ []) ≡ (b || ((f.0 == k) || false))
  any_snoc k [] f b is = ap (λ (x : Bool). x || ((f.0 == k) || false)) is
  any_snoc k (g ∷ fs) f b is = ap (λ (x : Bool). (g.0 == k) || x) (any_snoc k fs f (list_any (λ g. g.0 == k) fs) refl) ∙ or_assoc (g.0 == k) _ _ ∙ ap (λ (x : Bool). x || ((f.0 == k) || false)) is
    where
      or_assoc : (a b c : Bool) → (a || (b || c)) ≡ ((a || b) || c)
      or_assoc true b c = refl
      or_assoc false b c = refl

  listed_below : (n k : ℕ) → k < n → list_any (λ g. g.0 == k) (frames_below n) ≡ true
  unfolding frames_below
  listed_below zero k low = absurd (omega (arith, low))
  listed_below (suc n) k low = elim (eqb_tells k n) [
    | inl h ↦ any_snoc k (frames_below n) (frame n) _ refl ∙ ap (λ (x : Bool). list_any (λ g. g.0 == k) (frames_below n) || (x || false)) (eq-eqb n k (sym h.1)) ∙ or_true _
    | inr h ↦ any_snoc k (frames_below n) (frame n) true (listed_below n k (omega (arith, low, h.1)))
  ]
    where
      or_true : (b : Bool) → (b || (true || false)) ≡ true
      or_true true = refl
      or_true false = refl

  -- all frames that hold pages are below n: no page that passes is held any more
  pub emptied_all : (c : Bool) (t : Table) (held : ℕ → Option PageId) (n : ℕ) → ((k : ℕ) → n ≤ k → s.held k ≡ None) → KeepsFold c t held (emptied_below passes n s)
      → KeepsFold c t held (touched_where passes s)
  unfolding touched_where
  emptied_all c t held n within keeps = record {
    pages = λ k. keeps.pages k ∙ by k;
    entries = λ counts. subst (λ (u : Table). FollowsTable t u) (below_table n ∙ each_is_all s.held passes (frames_below n) s.table all) (keeps.entries counts);
  }
    where
      past : (k : ℕ) → n ≤ k → s.held k ≡ cond (holds passes (s.held k)) None (s.held k)
      past k high = subst (λ (o : Option PageId). o ≡ cond (holds passes o) None o) (sym (within k high)) refl

      by : (k : ℕ) → (emptied_below passes n s).held k ≡ cond (holds passes (s.held k)) None (s.held k)
      by k = elim (cases_lt k n) [
        | inl low ↦ below n k low
        | inr high ↦ above n k high ∙ past k high
      ]

      all : HasAll s.held passes (frames_below n)
      all k is = elim (cases_lt k n) [
        | inl low ↦ listed_below n k low
        | inr high ↦ absurd (false≢true (ap (λ (o : Option PageId). holds passes o) (sym (within k high)) ∙ is))
      ]

pub emptied_none : (passes : PageId → Bool) (s : Fold) → s ≡ emptied_below passes 0 s
unfolding emptied_below
emptied_none passes s = refl

pub emptied_next : (passes : PageId → Bool) (n : ℕ) (s : Fold) →
    let s' = emptied_below passes n s in touched_if (holds passes (s'.held n)) n s' ≡ emptied_below passes (n + 1) s
unfolding emptied_below
emptied_next passes n s = let one : suc n ≡ n + 1 = omega arith in ap (λ (k : ℕ). emptied_below passes k s) one
