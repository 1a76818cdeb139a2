-- A table follows the fold if it is told of each event by these calls.
use Rattle.std.specs.Prelude.{ℕ, ◌/◌, ◌≡◌, ◌==◌, Bool, true, false, List, [], ◌∷◌, length, filter, is_some, Option, if◌then◌else◌}
use Rattle.std.specs.List.{list_any}
use Rattle.std.specs.List.Sorted.{IsPermutation}
use Rattle.cloak_base.specs.Pages.{same_page, is_of}
use Rattle.cloak_base.specs.declared.names.Frame.{Frame}
use Rattle.cloak_base.specs.declared.names.PageId.{PageId}
use Rattle.cloak_base.specs.declared.names.SpaceId.{SpaceId}
use Rattle.shadow_fold.specs.declared.entry.Entry.{Entry}
use Rattle.shadow_fold.specs.Entries.{is_table, is_of_space}
use Rattle.shadow_fold.specs.Table.{Table, is_known, looked, ending, killed, with_room, with_live}
use Rattle.cloak_model.specs.Events.{Event, Look, Touch, Offer, Born, Read, Write, Drop, Space}
use Rattle.shadow_fold.specs.Fold.{Fold, frame, regime_in, entry_in, is_own_table, holds, touched, after_event, after_events}

-- the same entries are live, in any order, as no test can tell them apart, and the counts are the same
pub record FollowsTable (t u : Table) : Type 0 where
  pub live : (passes : Entry → Bool) → length (filter passes t.live) ≡ length (filter passes u.live)
  pub counts : t.counts ≡ u.counts

abbrev pub killed_if : Bool → Frame → Table → Table
killed_if b f t = if b then killed f t else t

module _ (held : ℕ → Option PageId) (passes : PageId → Bool) where
  -- the frames of a list are killed that hold a page that passes
  abbrev pub killed_each : List Frame → Table → Table
  killed_each [] t = t
  killed_each (f ∷ fs) t = killed_each fs (killed_if (holds passes (held f.0)) f t)

  -- the list has each frame that holds a page that passes
  abbrev pub HasAll : List Frame → Type 0
  HasAll fs = (f : ℕ) → holds passes (held f) ≡ true → list_any (λ g. g.0 == f) fs ≡ true

-- Page q is offered in frame g. If it holds the page already, there is no call. Otherwise g is killed if it holds a
-- page, then each frame that holds q, and then g if the offer is granted.
abbrev pub AreOfferCalls : Bool → PageId → Frame → Bool → Fold → Table → Table → Type 0
AreOfferCalls true q g grant s t t' = t' ≡ t
AreOfferCalls false q g grant s t t' =
    (fs : List Frame) × HasAll (touched g s).held (same_page q) fs
    × (t' ≡ killed_if grant g (killed_each (touched g s).held (same_page q) fs (killed_if (is_some (s.held g.0)) g t)))

-- An entry becomes live by an insertion, unless it is known.
abbrev pub AreBirthCalls : Bool → Entry → Table → Table → Type 0
AreBirthCalls true e t t' = t' ≡ t
AreBirthCalls false e t t' = IsPermutation (e ∷ (with_room t).live) t'.live × (t' ≡ with_live t'.live (with_room t))

-- the same, unless the entry is one that never becomes live
abbrev pub AreBirthCallsUnless : Bool → Entry → Table → Table → Type 0
AreBirthCallsUnless true e t t' = t' ≡ t
AreBirthCallsUnless false e t t' = AreBirthCalls (is_known e.regime e.page e.kind t) e t t'

module _ (space : Option SpaceId) where
  -- the calls for an event of a step of a hart outside, or of a context that has a space, after the events that led
  -- to s, make t' of a table t
  abbrev pub AreCallsFor : Event → Fold → Table → Table → Type 0
  AreCallsFor (Look satp a) s t t' = t' ≡ looked (regime_in space satp a) (a.va / 4096) a.kind t
  AreCallsFor (Touch f) s t t' = t' ≡ killed_if (is_some (s.held f)) (frame f) t
  AreCallsFor (Offer q g grant) s t t' = AreOfferCalls (holds (same_page q) (s.held g)) q (frame g) grant s t t'
  AreCallsFor (Born satp a walked cloaked) s t t' =
      let e = entry_in space satp a walked cloaked in AreBirthCallsUnless (is_own_table e) e t t'
  AreCallsFor (Read f) s t t' = t' ≡ t
  AreCallsFor (Write f) s t t' = t' ≡ ending (is_table (frame f)) t
  AreCallsFor (Drop d resource) s t t' =
      (fs : List Frame) × HasAll s.held (is_of d resource) fs × (t' ≡ killed_each s.held (is_of d resource) fs t)
  AreCallsFor (Space changed) s t t' = t' ≡ ending (is_of_space changed) t

  -- the same for events one after another
  abbrev pub AreCallsForAll : List Event → Fold → Table → Table → Type 0
  AreCallsForAll [] s t t' = t' ≡ t
  AreCallsForAll (e ∷ events) s t t' =
      (u : Table) × AreCallsFor e s t u × AreCallsForAll events (after_event space e s) u t'

-- The law: a table that followed the fold follows it after the events of a step.
abbrev pub CallsFollow : Type 0
CallsFollow = (space : Option SpaceId) (events : List Event) (s : Fold) (t t' : Table) → FollowsTable t s.table
    → AreCallsForAll space events s t t' → FollowsTable t' (after_events space events s).table
