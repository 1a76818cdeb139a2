-- Where an access of a side leads.
use Rattle.std.specs.Prelude.{ℕ, Bool, ◌≡◌, ◌<◌, ◌^◌, ◌/◌, ◌%◌, IsTrue, true, false, length, List, [], ◌∷◌}
use Rattle.std.specs.Prelude.{Option, Some, None, Result, Ok, Err, IfOk, IfSome}
use Rattle.cloak_base.specs.declared.names.Frame.{Frame}
use Rattle.cloak_base.specs.declared.names.Kind.{Kind}
use Rattle.cloak_base.specs.declared.names.Kind.TheVariants.{Store}
use Rattle.cloak_base.specs.declared.names.PageId.{PageId}
use Rattle.cloak_model.specs.declared.access.Access.{Access}
use Rattle.cloak_model.specs.declared.access.Walked.{Walked}
use Rattle.cloak_base.specs.declared.names.SpaceId.{SpaceId}
use Rattle.cloak_model.specs.Ask.{ask_led, known}
use Rattle.cloak_model.specs.declared.answer.Answer.{Answer}
use Rattle.cloak_model.specs.declared.answer.Answer.TheVariants as answer
use Rattle.cloak_model.specs.AskPages.{ask_led_inside, reach_by_table}
use Rattle.cloak_model.specs.Asking.{Asking, Told, FollowsFrom, Keeps}
use Rattle.cloak_model.specs.Events.{Look, Born}
use Rattle.cloak_model.specs.Exchange.{Piece}
use Rattle.cloak_base.specs.Constants.{frame_of, is_in_frames}
use Rattle.cloak_model.specs.Memory.{is_in_ram}
use Rattle.cloak_pager.specs.State.{held_in}
use Rattle.shadow_fold.specs.Fold.{entry_in, entry_of, regime_in, is_own_table}
use Rattle.shadow_fold.specs.Table.{is_known}
use Rattle.cloaked_side.specs.declared.memory.Memory.{Memory}
use Rattle.cloak_model.specs.Walk.{Walk, walk, access_fault}
use Rattle.cloak_model.specs.World.{World, Flat, Cloaked, Alone, is_clashed, noted}
use Rattle.shadow_fold.specs.Agreement.{EntryAgrees, satp_in, access_in}
use Rattle.shadow_fold.specs.Entries.{IsWithin, is_table}
use Rattle.shadow_fold.specs.declared.entry.Entry.{Entry}
use Rattle.shadow_fold.specs.declared.entry.Regime.{Regime}
use Rattle.shadow_fold.specs.declared.entry.Regime.TheVariants.{Inside}
use Rattle.shadow_law.specs.Agreeing.{present, AreOutside}
use Rattle.cloaked_side.specs.Holding.{HoldsNoOther, frames_of}
use Rattle.cloaked_side.specs.Seeing.{Sees, SeesWalking, Stays, StaysWithin, CanRead, CanWrite, space_in}
use Rattle.cloaked_side.specs.declared.leading.Found.{Found}
use Rattle.cloaked_side.specs.declared.leading.Found.TheVariants as found
use Rattle.cloaked_side.specs.declared.leading.Led.{Led}
use Rattle.cloaked_side.specs.declared.program_side.ProgramSide.{ProgramSide}
use Rattle.cloaked_side.specs.declared.side.Side.{Side}
use Rattle.cloak_model.specs.declared.regime.InsideRegime.{InsideRegime}

-- the regime is that of accesses of a side whose context has this space, or of one outside
abbrev pub IsRegimeIn : Option SpaceId → Regime → Type 0
IsRegimeIn space regime = (va : ℕ) (kind : Kind) → regime_in space (satp_in regime) (access_in regime va kind) ≡ regime

-- where an access of a regime leads
abbrev pub asked_led : Regime → ℕ → Kind → Asking Walk
asked_led regime va kind = ask_led (satp_in regime) (access_in regime va kind)

-- If accesses are counted, an access whose walk is not handed on has its translation known, and its target holds this.
abbrev pub IsLive : Memory → Regime → ℕ → Kind → Option PageId → Walked → Led → Type 0
IsLive memory regime va kind cloaked walked led = led.walked ≡ None → memory.counting ≡ true →
    (is_known regime (va / 4096) kind memory.shadows ≡ true) × (held_in memory.pager (frame_of walked.pa) ≡ cloaked)

-- if the look of an access missed, no translation of it is known
abbrev pub IsUnknownIfMissed : Memory → Regime → ℕ → Kind → Bool → Type 0
IsUnknownIfMissed memory regime va kind missed = missed ≡ true → is_known regime (va / 4096) kind memory.shadows ≡ false

-- this is the walk of an access, in the RAM that this world has, and leads there
abbrev pub IsWalkOf : World → Regime → ℕ → Kind → Walked → Type 0
IsWalkOf (Flat ram) regime va kind walked = ⊥
IsWalkOf (Alone handed) regime va kind walked = ⊥
IsWalkOf (Cloaked c) regime va kind walked =
    (walk c.memory.ram (satp_in regime) (access_in regime va kind) ≡ Ok walked) × (is_in_ram c.memory.ram walked.pa ≡ true)

-- an access was led to the address of this walk, which is the one that is handed on, if one is
pub record IsLedBy (walked : Walked) (led : Led) : Type 0 where
  pub place : led.pa ≡ walked.pa
  pub handed : IfSome led.walked (λ on. on ≡ walked)

-- the entry agrees with what this world's memory is, if frames hold these pages
abbrev pub IsEntryOf : World → (ℕ → Option PageId) → Entry → Type 0
IsEntryOf (Flat ram) held e = ⊥
IsEntryOf (Alone handed) held e = ⊥
IsEntryOf (Cloaked c) held e = EntryAgrees (present held c.memory) e × IsWithin (length c.memory.ram) e

-- the entry of an access that was led to this frame through these tables
abbrev pub entry_to : Regime → ℕ → Kind → Frame → Option Frame → Option Frame → Option PageId → Entry
entry_to regime va kind frame pt1 pt0 cloaked = record {
  regime = regime;
  page = va / 4096;
  kind = kind;
  frame = frame;
  pt1 = pt1;
  pt0 = pt0;
  cloaked = cloaked;
}

-- a side stands for what follows when a walk makes this entry, whose frame is none of its own tables
abbrev pub Learns : {E : Type 0} → (E → E → List Piece → Type 0) → Side E → Side E → Entry → Type 0
Learns {E} gave old new e =
    (first : Side E) (w : World) (satp : ℕ) (a : Access) (walked : Walked) (cloaked : Option PageId) →
    Sees gave first old w → IsEntryOf w (held_in old.memory.now.pager) e →
    entry_in (space_in old.regime) satp a walked cloaked ≡ e → is_own_table e ≡ false →
    Sees gave first new (noted (Born satp a walked cloaked ∷ []) w)

-- a side stands for what follows when a walk to memory that is not cloaked makes this entry
abbrev pub LearnsWalk : {E : Type 0} → (E → E → List Piece → Type 0) → Side E → Side E → Entry → Type 0
LearnsWalk {E} gave old new e = (first : Side E) (w : World) (satp : ℕ) (a : Access) (walked : Walked) →
    Sees gave first old w → IsEntryOf w (held_in old.memory.now.pager) e → entry_in (space_in old.regime) satp a walked None ≡ e →
    Sees gave first new (noted (Born satp a walked None ∷ []) w)

-- What the walk of an access leaves of a side, whatever it stands for: its translation is still unknown.
pub record WalkLeaves {E : Type 0} (gave : E → E → List Piece → Type 0) (old new : Side E) (regime : Regime) (va : ℕ)
    (kind : Kind) : Type 0 where
  pub keeps : Keeps (StaysWithin gave) old new
  pub same_count : frames_of new.memory.now ≡ frames_of old.memory.now
  pub unknown : is_known regime (va / 4096) kind new.memory.now.shadows ≡ false

-- An access was led by this walk, through tables that are outside. If the walk is not handed on, its translation is
-- known.
pub record IsLedSo (memory : Memory) (w : World) (regime : Regime) (va : ℕ) (kind : Kind) (cloaked : Option PageId)
    (walked : Walked) (led : Led) : Type 0 where
  pub by : IsLedBy walked led
  pub walk : IsWalkOf w regime va kind walked
  pub outside : AreOutside (held_in memory.pager) walked
  pub live : IsLive memory regime va kind cloaked walked led

-- The question where an access leads was answered so: by a walk, by which it was led so, or by its fault.
abbrev pub Leads : {E : Type 0} → (E → E → List Piece → Type 0) → Side E → Side E → Regime → ℕ → Kind → Option PageId →
    Result Led ℕ → Told Walk → Type 0
Leads gave first new regime va kind cloaked (Ok led) told =
    (walked : Walked) × FollowsFrom (Sees gave first) new (Ok walked) told
    × IsLedSo new.memory.now told.world regime va kind cloaked walked led
Leads gave first new regime va kind cloaked (Err cause) told = FollowsFrom (Sees gave first) new (Err cause) told

-- An access to a cloaked page was led so, and its frame holds the page now: the entry of the walk agrees, unless the
-- page's frame is one of its own tables.
pub record IsReachedSo (memory : Memory) (w : World) (regime : Regime) (va : ℕ) (kind : Kind) (q : PageId)
    (walked : Walked) (led : Led) : Type 0 where
  pub by : IsLedBy walked led
  pub entry : let e = entry_of regime (va / 4096) kind walked (Some q) in
      is_table e.frame e ≡ false → IsEntryOf w (held_in memory.pager) e
  pub live : IsLive memory regime va kind (Some q) walked led

-- a side stands for what follows when the translation that led to a cloaked page is known
abbrev pub LearnsPage : {E : Type 0} → (E → E → List Piece → Type 0) → Side E → Side E → PageId → ℕ → Kind → Led →
    Type 0
LearnsPage {E} gave old new q va kind led = (first : Side E) (w : World) (walked : Walked) → Sees gave first old w →
    IsReachedSo old.memory.now w old.regime va kind q walked led →
    Sees gave first new (known (satp_in old.regime) (access_in old.regime va kind) (Some q) walked w)

-- What learning a translation, or none, leaves of a side, whatever it stands for.
pub record LearnsOnly {E : Type 0} (gave : E → E → List Piece → Type 0) (old new : Side E) : Type 0 where
  pub keeps : Keeps (StaysWithin gave) old new
  pub same_pager : new.memory.now.pager ≡ old.memory.now.pager
  pub same_missed : new.memory.now.missed ≡ old.memory.now.missed

-- who translates for the questions of a cloaked program
abbrev pub inside_regime : InsideRegime → SpaceId → Regime
inside_regime regime space = Inside regime.satp regime.sum regime.mxr space

-- where an access leads for which this was found, or its fault; none if the look missed
abbrev pub found_to : Kind → Found → Option (Result Led ℕ)
found_to kind (found.Straight pa frame) = Some (Ok (record { pa = pa; walked = None; missed = false }))
found_to kind (found.Other walked) = Some (Ok (record { pa = walked.pa; walked = Some walked; missed = false }))
found_to kind found.Fault = Some (Err (access_fault kind))
found_to kind found.Missed = None

-- An access was led into a frame that there is, at the place that its own address has in a page.
pub record IsLedInside (frames va : ℕ) (led : Led) : Type 0 where
  pub inside : IsTrue (is_in_frames frames led.pa)
  pub offset : led.pa % 4096 ≡ va % 4096

-- so it is, if this was found of it
abbrev pub IsFoundInside : ℕ → ℕ → Kind → Found → Type 0
IsFoundInside frames va kind found = IfSome (found_to kind found) (λ to. IfOk to (IsLedInside frames va))

-- the frame that was found is that of the address, and an address fits its word
abbrev pub IsRightFound : Found → Type 0
IsRightFound (found.Straight pa frame) = frame.0 ≡ frame_of pa
IsRightFound (found.Other walked) = walked.pa < 2 ^ 32
IsRightFound found.Fault = Unit {0}
IsRightFound found.Missed = Unit {0}

-- After the look for an access a side stands so: the access was led there, or its walk begins.
abbrev pub IsFoundSo : {E : Type 0} → (E → E → List Piece → Type 0) → Side E → Side E → World → Regime → ℕ → Kind →
    Option PageId → Option (Result Led ℕ) → Type 0
IsFoundSo gave first now w regime va kind cloaked (Some to) =
    Leads gave first now regime va kind cloaked to (asked_led regime va kind w)
IsFoundSo gave first now w regime va kind cloaked None =
    SeesWalking gave first now (noted (Look (satp_in regime) (access_in regime va kind) ∷ []) w)

-- On from a look that found this, the question of a context for a page is answered as the definition tells.
abbrev pub Reaches : {E : Type 0} → (E → E → List Piece → Type 0) → Side E → Side E → Answer → PageId → ℕ → Kind →
    Option (Result Led ℕ) → Type 0
Reaches {E} gave old new given q va kind to =
    (first : Side E) (w : World) (s : SpaceId) → space_in old.regime ≡ Some s →
    ask_led_inside va kind w ≡ asked_led old.regime va kind w →
    (is_clashed (asked_led old.regime va kind w).world ≡ false →
    IsFoundSo gave first old w old.regime va kind (Some q) to) →
    is_clashed (reach_by_table q va kind w).world ≡ false →
    FollowsFrom (Sees gave first) new given (reach_by_table q va kind w)

-- What the question for page q leaves, whatever the side stands for. If it was granted, the page can be read, and
-- written if it was reached for a store.
pub record ReachLeaves {E : Type 0} (gave : E → E → List Piece → Type 0) (old new : ProgramSide E) (q : PageId)
    (kind : Kind) (given : Answer) : Type 0 where
  pub keeps : Keeps (Stays gave) old.side new.side
  pub others : HoldsNoOther q old.side.memory.now.pager new.side.memory.now.pager
  pub readable : given ≡ answer.Ok → CanRead new q
  pub writable : given ≡ answer.Ok → kind ≡ Store → CanWrite new q
