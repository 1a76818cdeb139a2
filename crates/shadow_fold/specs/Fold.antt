-- Shadow entries and their counts as a fold over the shadow events of a run.
--
-- A frame that holds a page is plain, every other is outside. Events end the entries that they may change.
use Rattle.std.specs.Prelude.{ℕ, ◌/◌, ◌==◌, Bool, true, false, ◌&&◌, ◌||◌, List, [], ◌∷◌, Option, Some, None, is_some, if◌then◌else◌}
use Rattle.cloak_base.specs.Pages.{same_page, is_of}
use Rattle.cloak_base.specs.declared.names.Frame.{Frame}
use Rattle.cloak_base.specs.declared.names.Kind.{Kind}
use Rattle.cloak_base.specs.declared.names.PageId.{PageId}
use Rattle.cloak_base.specs.declared.names.SpaceId.{SpaceId}
use Rattle.cloak_model.specs.declared.access.Access.{Access}
use Rattle.cloak_model.specs.declared.access.Walked.{Walked}
use Rattle.cloak_model.specs.Events.{Event, Look, Touch, Offer, Born, Read, Write, Drop, Space}
use Rattle.cloak_model.specs.Walk.{frame_at}
use Rattle.shadow_fold.specs.declared.entry.Entry.{Entry}
use Rattle.shadow_fold.specs.declared.entry.Regime.{Regime}
use Rattle.shadow_fold.specs.declared.entry.Regime.TheVariants.{Outside, Inside}
use Rattle.shadow_fold.specs.Entries.{is_table, is_of_space}
use Rattle.shadow_fold.specs.Table.{Table, empty_table, looked, ending, killed, born}

pub record Fold : Type 0 where
  -- the live entries, the newest first, and the counts
  pub table : Table
  -- the page that a frame holds
  pub held : ℕ → Option PageId

-- before the first event
abbrev pub fresh_fold : ℕ → Fold
fresh_fold frames = record { table = empty_table frames; held = λ f. None }

abbrev pub with_table : Table → Fold → Fold
with_table t s = record s { table = t }

abbrev pub with_held : Frame → Option PageId → Fold → Fold
with_held f q s = record s { held = λ g. if g == f.0 then q else s.held g }

-- a page is held, and it passes
abbrev pub holds : (PageId → Bool) → Option PageId → Bool
holds passes None = false
holds passes (Some q) = passes q

module _ (held : ℕ → Option PageId) (passes : PageId → Bool) where
  abbrev pub table_holds : Option Frame → Bool
  table_holds None = false
  table_holds (Some f) = holds passes (held f.0)

  -- the target or a table frame of the entry holds a page that passes
  unfoldable pub part_holds : Entry → Bool
  part_holds e = holds passes (held e.frame.0) || (table_holds e.pt1 || table_holds e.pt0)

-- Each frame that holds a page that passes is made outside: it holds nothing, and the entries that lead to it or
-- through it end.
unfoldable pub touched_where : (PageId → Bool) → Fold → Fold
touched_where passes s = record {
  table = ending (part_holds s.held passes) s.table;
  held = λ f. if holds passes (s.held f) then None else s.held f;
}

-- a frame is made outside
unfoldable pub touched : Frame → Fold → Fold
touched f s = if is_some (s.held f.0) then with_held f None (with_table (killed f s.table) s) else s

-- a granted frame holds the page
abbrev pub granted : PageId → Frame → Bool → Fold → Fold
granted q g grant s = if grant then with_held g (Some q) (with_table (killed g s.table) s) else s

unfoldable pub offered : PageId → Frame → Bool → Fold → Fold
offered q g grant s =
    if holds (same_page q) (s.held g.0) then s
    else granted q g grant (touched_where (same_page q) (touched g s))

-- who translates: a hart outside, or one inside, whose context has this space
abbrev pub regime_in : Option SpaceId → ℕ → Access → Regime
regime_in None satp a = Outside satp a.mode a.sum a.mxr
regime_in (Some space) satp a = Inside satp a.sum a.mxr space

-- the entry of a walk
abbrev pub entry_of : Regime → ℕ → Kind → Walked → Option PageId → Entry
entry_of regime page kind walked cloaked = record {
  regime = regime;
  page = page;
  kind = kind;
  frame = frame_at walked.pa;
  pt1 = walked.pt1;
  pt0 = walked.pt0;
  cloaked = cloaked;
}

-- the entry of the walk of an access
abbrev pub entry_in : Option SpaceId → ℕ → Access → Walked → Option PageId → Entry
entry_in space satp a walked cloaked = entry_of (regime_in space satp a) (a.va / 4096) a.kind walked cloaked

-- an entry whose page lies in one of its own table frames never becomes live
abbrev pub is_own_table : Entry → Bool
is_own_table e = is_some e.cloaked && is_table e.frame e

abbrev pub born_unless : Bool → Entry → Table → Table
born_unless true e t = t
born_unless false e t = born e t

abbrev pub frame : ℕ → Frame
frame f = record { 0 = f }

-- an event of a step of a hart outside, or of a context that has a space
unfoldable pub after_event : Option SpaceId → Event → Fold → Fold
after_event space (Look satp a) s = with_table (looked (regime_in space satp a) (a.va / 4096) a.kind s.table) s
after_event space (Touch f) s = touched (frame f) s
after_event space (Offer q g grant) s = offered q (frame g) grant s
after_event space (Born satp a walked cloaked) s =
    let e = entry_in space satp a walked cloaked in with_table (born_unless (is_own_table e) e s.table) s
after_event space (Read f) s = s
after_event space (Write f) s = with_table (ending (is_table (frame f)) s.table) s
after_event space (Drop d resource) s = touched_where (is_of d resource) s
after_event space (Space changed) s = with_table (ending (is_of_space changed) s.table) s

-- what is live and counted after the events of a step
unfoldable pub after_events : Option SpaceId → List Event → Fold → Fold
after_events space [] s = s
after_events space (e ∷ events) s = after_events space events (after_event space e s)
