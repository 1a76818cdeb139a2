-- A memory beside the fold over the shadow events of a run.
use Rattle.std.specs.Prelude.{ℕ, ◌≡◌, Bool, true, false, List, [], ◌∷◌, Option, if◌then◌else◌}
use Rattle.std.specs.List.{All}
use Rattle.cloak_base.specs.declared.names.PageId.{PageId}
use Rattle.cloak_base.specs.declared.names.SpaceId.{SpaceId}
use Rattle.cloak_base.specs.Pages.{same_page}
use Rattle.cloak_model.specs.Cloaking.{CloakedMemory, settle}
use Rattle.cloak_model.specs.Events.{Event}
use Rattle.cloak_pager.specs.State.{held_in}
use Rattle.shadow_fold.specs.Agreement.{IsMapped}
use Rattle.shadow_fold.specs.Births.{MakeAll}
use Rattle.shadow_fold.specs.Entries.{is_of_space}
use Rattle.shadow_fold.specs.Fold.{Fold, frame, touched, touched_where, after_events}
use Rattle.shadow_fold.specs.Following.{FollowsTable}
use Rattle.shadow_fold.specs.Reads.{AskedByStep, Spent, SpendsFor, events_in, looks_in, reads_due}
use Rattle.shadow_fold.specs.Table.{Table}
use Rattle.cloaked_side.specs.declared.memory.Memory.{Memory}

-- Each frame holds the page that it holds in the fold. If accesses are counted, the translations and the counts are
-- those of the fold too.
pub record KeepsFold (counting : Bool) (table : Table) (held : ℕ → Option PageId) (s : Fold) : Type 0 where
  pub pages : (f : ℕ) → held f ≡ s.held f
  pub entries : counting ≡ true → FollowsTable table s.table

abbrev pub Tracks : Memory → Fold → Type 0
Tracks memory s = KeepsFold memory.counting memory.shadows (held_in memory.pager) s

-- a call did to a memory what this does to the fold
abbrev pub TracksBy : Memory → Memory → (Fold → Fold) → Type 0
TracksBy old new next = (s : Fold) → Tracks old s → Tracks new (next s)

-- what making room for page q in frame g does to the fold
abbrev pub room_made : PageId → ℕ → CloakedMemory → Fold → Fold
room_made q g m s =
    if (settle g m).missed then touched (frame g) s else touched_where (same_page q) (touched (frame g) s)

-- a frame is touched, or not
abbrev pub touched_if : Bool → ℕ → Fold → Fold
touched_if b f s = if b then touched (frame f) s else s

-- What else calls on a memory did.

-- how often its frames were read, and how many of its looks missed
abbrev pub spent_in : Memory → Spent
spent_in memory = record { reads = memory.pager.reads; misses = memory.shadows.counts.misses }

-- The pages of all live entries lie where their spaces have them.
abbrev pub AreMapped : (SpaceId → ℕ → Option PageId) → Memory → Type 0
AreMapped mapped memory = All (IsMapped mapped) memory.shadows.live

-- Entries come about by events alone: they lie where their spaces have them, if those that events make do.
abbrev pub MapsBy : Memory → Memory → Option SpaceId → List Event → Type 0
MapsBy old new space events = (mapped : SpaceId → ℕ → Option PageId) →
    MakeAll (IsMapped mapped) space events → AreMapped mapped old → AreMapped mapped new

-- so if no entry comes about
abbrev pub MapsStill : Memory → Memory → Type 0
MapsStill old new = (mapped : SpaceId → ℕ → Option PageId) → AreMapped mapped old → AreMapped mapped new

-- P holds of all of them
abbrev pub AreAll : (SpaceId → Type 0) → List SpaceId → Type 0
AreAll P [] = Unit {0}
AreAll P (s ∷ spaces) = P s × AreAll P spaces

-- no live entry is of a space
abbrev pub IsGone : Memory → SpaceId → Type 0
IsGone memory s = All (λ e. is_of_space s e ≡ false) memory.shadows.live

-- What a step that asks this does to a memory: it follows the fold of its events, it is read no more often than is due,
-- its entries come about by its events, and no entry is left of a space that changed.
pub record GoesBy (old new : Memory) (a : AskedByStep) : Type 0 where
  pub tracks : TracksBy old new (after_events a.space (events_in a))
  pub spends : SpendsFor (looks_in a.events) 0 (reads_due a) (spent_in old) (spent_in new)
  pub maps : MapsBy old new a.space a.events
  pub gone : AreAll (IsGone new) a.changed
