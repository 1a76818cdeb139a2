-- What a side stands for.
use Rattle.std.specs.Prelude.{ℕ, ◌≡◌, ◌≢◌, ◌<◌, ◌+◌, ◌^◌, zero, suc, nat_lt, true, false, Option, Some, None, List, [], ◌∷◌, if◌then◌else◌}
use Rattle.cloak_base.specs.declared.names.Kind.{Kind}
use Rattle.cloak_base.specs.declared.names.PageId.{PageId}
use Rattle.cloak_base.specs.declared.names.SpaceId.{SpaceId}
use Rattle.cloak_pager.specs.State.{held_in, owed_at, IsNoneOwed, IsNoneHeld}
use Rattle.protect_meta.specs.Pages.{IsIn}
use Rattle.cloak_model.specs.World.{World, MidStep, Flat, Cloaked, Alone, is_clashed}
use Rattle.cloak_model.specs.Asking.{Asking, FollowsFrom, Keeps}
use Rattle.cloak_model.specs.declared.regime.InsideRegime.{InsideRegime}
use Rattle.cloak_model.specs.Exchange.{Piece, Emits, EmitsSome, item_pieces}
use Rattle.cloak_model.specs.Events.{Event, Look, Touch, Offer, Born, Read, Write, Drop, Space}
use Rattle.shadow_fold.specs.Fold.{after_events}
use Rattle.shadow_fold.specs.Reads.{AskedByStep, SpendsFor, looks_in, reads_due}
use Rattle.shadow_fold.specs.Table.{Table, is_known}
use Rattle.shadow_fold.specs.declared.entry.Regime.{Regime}
use Rattle.shadow_fold.specs.declared.entry.Regime.TheVariants.{Outside, Inside}
use Rattle.cloaked_side.specs.Tracking.{TracksBy, MapsBy, spent_in}
use Rattle.cloaked_side.specs.Holding.{Holds, SameSize, HoldsNoMore, domains_in}
use Rattle.cloaked_side.specs.declared.program_side.ProgramSide.{ProgramSide}
use Rattle.cloaked_side.specs.declared.side.Side.{Side}

-- What a step has asked so far, for a context of this space or outside.
abbrev pub asked_by : Option SpaceId → MidStep → AskedByStep
asked_by space c = record { space = space; events = c.events; items = c.items; changed = [] }

-- this many more than are due
abbrev pub paid : ℕ → ℕ → ℕ
paid zero due = due
paid (suc more) due = suc (paid more due)

-- the space of the context that translates; none outside
abbrev pub space_in : Regime → Option SpaceId
space_in (Outside satp mode sum mxr) = None
space_in (Inside satp sum mxr space) = Some space

-- A context translates as its hart sees memory. Outside, each access says how.
abbrev pub IsRegimeFor : InsideRegime → Regime → Type 0
IsRegimeFor v (Outside satp mode sum mxr) = Unit {0}
IsRegimeFor v (Inside satp sum mxr space) = (v.satp ≡ satp) × (v.sum ≡ sum) × (v.mxr ≡ mxr)

-- What memory and step have become since an earlier state of the side, in which the emitter was as when a step began. A
-- side does not know which pages lie at the addresses of a space. Of the reads of page tables that the misses pay for,
-- `left` are left, and `more` reads are paid for beyond those that are due.
pub record SeesCounted {E : Type 0} (gave : E → E → List Piece → Type 0) (first now : Side E) (c : MidStep)
    (left more : ℕ) : Type 0 where
  pub holds : Holds now.memory.now c.memory
  pub emits : Emits gave first.emitter.now now.emitter.now (item_pieces c.items)
  pub violation : now.violation ≡ c.violation
  pub domain : now.domain ≡ c.regime.domain
  pub regime : IsRegimeFor c.regime now.regime
  -- the memory has become what the step's events make of it
  pub tracks : TracksBy first.memory.now now.memory.now (after_events (space_in now.regime) c.events)
  pub spends : SpendsFor (looks_in c.events) left (paid more (reads_due (asked_by (space_in now.regime) c)))
      (spent_in first.memory.now) (spent_in now.memory.now)
  pub maps : MapsBy first.memory.now now.memory.now (space_in now.regime) c.events

abbrev pub SeesCloak : {E : Type 0} → (E → E → List Piece → Type 0) → Side E → Side E → MidStep → Type 0
SeesCloak gave first now c = SeesCounted gave first now c 0 0

abbrev pub Sees : {E : Type 0} → (E → E → List Piece → Type 0) → Side E → Side E → World → Type 0
Sees gave first now (Flat ram) = ⊥
Sees gave first now (Alone handed) = ⊥
Sees gave first now (Cloaked c) = SeesCloak gave first now c

-- In the middle of a walk, after a look that missed: the two words of page tables that the miss pays for are left, and
-- one word was read of each frame that was touched since.

-- how many frames were touched since the last look, counted on from n
abbrev pub touched_since : ℕ → List Event → ℕ
touched_since n [] = n
touched_since n (Look satp a ∷ events) = touched_since 0 events
touched_since n (Touch f ∷ events) = touched_since (n + 1) events
touched_since n (Offer q g grant ∷ events) = touched_since n events
touched_since n (Born satp a walked cloaked ∷ events) = touched_since n events
touched_since n (Read f ∷ events) = touched_since n events
touched_since n (Write f ∷ events) = touched_since n events
touched_since n (Drop d resource ∷ events) = touched_since n events
touched_since n (Space changed ∷ events) = touched_since n events

abbrev pub SeesWalking : {E : Type 0} → (E → E → List Piece → Type 0) → Side E → Side E → World → Type 0
SeesWalking gave first now (Flat ram) = ⊥
SeesWalking gave first now (Alone handed) = ⊥
SeesWalking gave first now (Cloaked c) = SeesCounted gave first now c 2 (touched_since 0 c.events)

-- The same as is seen, except for the fold: what memory and step have become while the frames of a resource are emptied
-- one by one.

pub record ShowsCloak {E : Type 0} (gave : E → E → List Piece → Type 0) (first now : Side E) (c : MidStep) : Type 0 where
  pub holds : Holds now.memory.now c.memory
  pub emits : Emits gave first.emitter.now now.emitter.now (item_pieces c.items)
  pub violation : now.violation ≡ c.violation
  pub domain : now.domain ≡ c.regime.domain
  pub regime : IsRegimeFor c.regime now.regime
  pub spends : SpendsFor (looks_in c.events) 0 (reads_due (asked_by (space_in now.regime) c))
      (spent_in first.memory.now) (spent_in now.memory.now)
  pub maps : MapsBy first.memory.now now.memory.now (space_in now.regime) c.events

abbrev pub ShowsWorld : {E : Type 0} → (E → E → List Piece → Type 0) → Side E → Side E → World → Type 0
ShowsWorld gave first now (Flat ram) = ⊥
ShowsWorld gave first now (Alone handed) = ⊥
ShowsWorld gave first now (Cloaked c) = ShowsCloak gave first now c

abbrev pub ShowsOn : {E : Type 0} → (E → E → List Piece → Type 0) → Side E → Side E → Type 0
ShowsOn gave old new = (first : _) (w : World) → ShowsWorld gave first old w → ShowsWorld gave first new w

-- From each world that the side stood for, it stands for the next one.
abbrev pub Becomes : {E : Type 0} → (E → E → List Piece → Type 0) → Side E → Side E → (World → World) → Type 0
Becomes gave old new next = (first : _) (w : World) → Sees gave first old w → Sees gave first new (next w)

-- From each world that it stood for, the answer is that of the definition, and the side stands for the world after it.
-- So it is with questions that compare no pages.
abbrev pub FollowsAlways :
    {E A : Type 0} → (E → E → List Piece → Type 0) → Side E → Side E → A → Asking A → Type 0
FollowsAlways gave old new given ask =
    (first : _) (w : World) → Sees gave first old w → FollowsFrom (Sees gave first) new given (ask w)

-- A side for a context, and one outside.

abbrev pub SeesInside : {E : Type 0} → (E → E → List Piece → Type 0) → Side E → Side E → World → Type 0
SeesInside gave first now w = Sees gave first now w × ((s : SpaceId) × (space_in now.regime ≡ Some s))

abbrev pub SeesOutside : {E : Type 0} → (E → E → List Piece → Type 0) → Side E → Side E → World → Type 0
SeesOutside gave first now w = Sees gave first now w × (space_in now.regime ≡ None)

-- So a question of a context follows.
abbrev pub FollowsInside : {E A : Type 0} → (E → E → List Piece → Type 0) → Side E → Side E → A → Asking A → Type 0
FollowsInside gave old new given ask =
    (first : _) (w : World) (s : SpaceId) → Sees gave first old w → space_in old.regime ≡ Some s →
    is_clashed (ask w).world ≡ false → FollowsFrom (Sees gave first) new given (ask w)

-- What stays of a side, whatever it stands for. No frame holds a page of another domain that it did not hold.
pub record Stays {E : Type 0} (gave : E → E → List Piece → Type 0) (first now : Side E) : Type 0 where
  pub same_memory : now.memory.ghost_name ≡ first.memory.ghost_name
  pub same_emitter : now.emitter.ghost_name ≡ first.emitter.ghost_name
  pub emits_some : EmitsSome gave first.emitter.now now.emitter.now
  pub size : SameSize first.memory.now now.memory.now
  pub domain : now.domain ≡ first.domain
  pub regime : now.regime ≡ first.regime
  pub counting : now.memory.now.counting ≡ first.memory.now.counting
  pub others : (k : ℕ) (q : PageId) → q.domain ≢ first.domain →
      held_in now.memory.now.pager k ≡ Some q → held_in first.memory.now.pager k ≡ Some q

-- What stays of it if no page is offered: no frame holds any page that it did not hold.
pub record StaysWithin {E : Type 0} (gave : E → E → List Piece → Type 0) (first now : Side E) : Type 0 where
  pub stays : Stays gave first now
  pub no_more : HoldsNoMore first.memory.now.pager now.memory.now.pager

-- What stays of it if an item is written: besides, the memory is the same.
pub record WritesOnly {E : Type 0} (gave : E → E → List Piece → Type 0) (old new : Side E) : Type 0 where
  pub keeps : Keeps (StaysWithin gave) old new
  pub same : new.memory ≡ old.memory
  pub domain : new.domain ≡ old.domain

-- no translation is known that was not
abbrev pub LosesOnly : Table → Table → Type 0
LosesOnly old new = (regime : Regime) (page : ℕ) (kind : Kind) →
    is_known regime page kind new ≡ true → is_known regime page kind old ≡ true

-- What stays of it in the middle of a walk: besides, no translation becomes known.
pub record StaysWalking {E : Type 0} (gave : E → E → List Piece → Type 0) (first now : Side E) : Type 0 where
  pub within : StaysWithin gave first now
  pub loses : LosesOnly first.memory.now.shadows now.memory.now.shadows

-- The number of the domain that a side serves. If the memory has no such domain, it is the number of none.
abbrev pub served : {E : Type 0} → Side E → ℕ
served side = if nat_lt side.domain (domains_in side.memory.now) then side.domain else 2 ^ 32

-- There is such a page, and it is of the domain of the context that asks.
pub record IsOwnPage {E : Type 0} (side : Side E) (q : PageId) : Type 0 where
  pub page : IsIn (domains_in side.memory.now) q
  pub own : q.domain ≡ side.domain

-- The page can be read: the frame that was reached last holds it, and no draw is missing.
pub record CanRead {E : Type 0} (side : ProgramSide E) (q : PageId) : Type 0 where
  pub page : IsIn (domains_in side.side.memory.now) q
  pub drawn : side.side.memory.now.missed ≡ false
  pub held : held_in side.side.memory.now.pager side.reached.0 ≡ Some q

-- The page can be written: the frame that was reached last is owed it, and no draw is missing.
pub record CanWrite {E : Type 0} (side : ProgramSide E) (q : PageId) : Type 0 where
  pub page : IsIn (domains_in side.side.memory.now) q
  pub drawn : side.side.memory.now.missed ≡ false
  pub owed : owed_at side.side.memory.now.pager side.reached.0 ≡ Some q

-- There is resource r, and no frame is owed a page of it.
pub record IsCleared {E : Type 0} (side : Side E) (r : ℕ) : Type 0 where
  pub resource : r < 16
  pub none_owed : IsNoneOwed side.memory.now.pager side.domain r

-- no frame holds a page of resource n
abbrev pub IsUnused : {E : Type 0} → Side E → ℕ → Type 0
IsUnused side n = IsNoneHeld side.memory.now.pager side.domain n
