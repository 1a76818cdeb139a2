-- What a miss makes live: the walk that a machine made by its words still leads there after what the access does then,
-- and its entry agrees.
use Rattle.std.specs.Prelude.{ℕ, ◌/◌, ◌≡◌, ◌≢◌, Bool, true, false, List, length, Option, Some, None, Ok}
use Rattle.std.specs.List.{All}
use Rattle.cloak_base.specs.declared.names.Kind.{Kind}
use Rattle.cloak_base.specs.declared.names.Kind.TheVariants.{Store}
use Rattle.cloak_base.specs.declared.names.PageId.{PageId}
use Rattle.cloak_base.specs.declared.names.SpaceId.{SpaceId}
use Rattle.cloak_model.specs.declared.access.Access.{Access}
use Rattle.cloak_model.specs.declared.access.Walked.{Walked}
use Rattle.cloak_model.specs.Ask.{ask_walk}
use Rattle.cloak_model.specs.AskPages.{is_store}
use Rattle.cloak_model.specs.Cloaking.{CloakedMemory, owed_in, settle, offer}
use Rattle.cloak_base.specs.Constants.{frame_of}
use Rattle.cloak_model.specs.Memory.{is_in_ram}
use Rattle.cloak_model.specs.Walk.{walk}
use Rattle.cloak_model.specs.World.{MidStep, Cloaked}
use Rattle.shadow_fold.specs.declared.entry.Entry.{Entry}
use Rattle.shadow_fold.specs.declared.entry.Regime.{Regime}
use Rattle.shadow_fold.specs.Agreement.{Present, EntryAgrees, IsMapped, satp_in, access_in}
use Rattle.shadow_fold.specs.Fold.{entry_of}
use Rattle.shadow_fold.specs.Entries.{IsWithin, is_frame, is_table}
use Rattle.shadow_fold.specs.Following.{AreBirthCalls}
use Rattle.shadow_fold.specs.Keeping.{Agrees}
use Rattle.shadow_fold.specs.Table.{Table, is_known}
use Rattle.shadow_law.specs.Agreeing.{HeldPages, present, frame, OwedIsHeld, AreOutside}

-- A walk that asks for its words, each settled first, has the answer of the walk over the RAM that it leaves.
abbrev pub AskedWalk : Type 0
AskedWalk = (satp : ℕ) (a : Access) (c : MidStep) → let told = ask_walk satp a (Cloaked c) in
    (c' : MidStep) × (told.world ≡ Cloaked c') × (walk c'.memory.ram satp a ≡ told.answer)

-- A walk whose table frames are outside still leads there after the settling of a frame.
abbrev pub SettledWalk : Type 0
SettledWalk = (held : HeldPages) (m : CloakedMemory) (f satp : ℕ) (a : Access) (w : Walked) → OwedIsHeld held m
    → AreOutside held w → walk m.ram satp a ≡ Ok w → walk (settle f m).memory.ram satp a ≡ Ok w

-- The same is true after an offer in a frame that is none of its table frames.
abbrev pub OfferedWalk : Type 0
OfferedWalk = (held : HeldPages) (m : CloakedMemory) (q : PageId) (g : ℕ) (write : Bool) (satp : ℕ) (a : Access) (w : Walked)
    → OwedIsHeld held m → AreOutside held w → is_frame (frame g) w.pt1 ≡ false → is_frame (frame g) w.pt0 ≡ false
    → walk m.ram satp a ≡ Ok w → walk (offer q g write m).memory.ram satp a ≡ Ok w

-- every frame but this that is outside stays so
abbrev pub StayOutsideBut : ℕ → HeldPages → HeldPages → Type 0
StayOutsideBut f held held' = (x : ℕ) → x ≢ f → held x ≡ None → held' x ≡ None

-- An access that is not cloaked, whose target is settled and holds nothing then: its entry agrees.
abbrev pub OpenEntryAgrees : Type 0
OpenEntryAgrees = (held held' : HeldPages) (m : CloakedMemory) (regime : Regime) (va : ℕ) (kind : Kind) (w : Walked)
    → walk m.ram (satp_in regime) (access_in regime va kind) ≡ Ok w → is_in_ram m.ram w.pa ≡ true → OwedIsHeld held m
    → AreOutside held w → StayOutsideBut (frame_of w.pa) held held' → held' (frame_of w.pa) ≡ None
    → let m' = (settle (frame_of w.pa) m).memory in
    EntryAgrees (present held' m') (entry_of regime (va / 4096) kind w None)

-- An access to a cloaked page, which is offered in the target, and which that holds then: its entry agrees, unless the
-- target is one of its own table frames.
abbrev pub PageEntryAgrees : Type 0
PageEntryAgrees = (held held' : HeldPages) (m : CloakedMemory) (regime : Regime) (va : ℕ) (kind : Kind) (w : Walked)
    (q : PageId) → walk m.ram (satp_in regime) (access_in regime va kind) ≡ Ok w → is_in_ram m.ram w.pa ≡ true
    → OwedIsHeld held m → AreOutside held w → let g = frame_of w.pa in
    let m' = (offer q g (is_store kind) m).memory in let e = entry_of regime (va / 4096) kind w (Some q) in
    is_table e.frame e ≡ false → StayOutsideBut g held held'
    → held' g ≡ Some q → (kind ≡ Store → owed_in m' g ≡ Some q) → EntryAgrees (present held' m') e

-- The frames of the entry of a walk are frames of RAM.
abbrev pub EntryWithin : Type 0
EntryWithin = (ram : List (List ℕ)) (regime : Regime) (va : ℕ) (kind : Kind) (w : Walked) (cloaked : Option PageId)
    → walk ram (satp_in regime) (access_in regime va kind) ≡ Ok w → is_in_ram ram w.pa ≡ true
    → IsWithin (length ram) (entry_of regime (va / 4096) kind w cloaked)

-- An entry that agrees becomes live, unless it is known: all live entries agree.
abbrev pub BirthKeeps : Type 0
BirthKeeps = (p : Present) (e : Entry) (old new : Table) → AreBirthCalls (is_known e.regime e.page e.kind old) e old new
    → EntryAgrees p e → Agrees p old → Agrees p new

-- The same is true of where their pages lie, and of their frames.
abbrev pub BirthKeepsMapped : Type 0
BirthKeepsMapped = (mapped : SpaceId → ℕ → Option PageId) (e : Entry) (old new : Table)
    → AreBirthCalls (is_known e.regime e.page e.kind old) e old new
    → IsMapped mapped e → All (IsMapped mapped) old.live → All (IsMapped mapped) new.live

abbrev pub BirthKeepsWithin : Type 0
BirthKeepsWithin = (n : ℕ) (e : Entry) (old new : Table) → AreBirthCalls (is_known e.regime e.page e.kind old) e old new
    → IsWithin n e → All (IsWithin n) old.live → All (IsWithin n) new.live
