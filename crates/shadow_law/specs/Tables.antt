-- All live entries of a table agree with the joint machine's memory, through each change of it and the calls that the
-- machine makes for that change.
use Rattle.std.specs.Prelude.{ℕ, ◌≡◌, ◌≢◌, Bool, false, List, Option, Some, None}
use Rattle.std.specs.List.{All}
use Rattle.cloak_base.specs.declared.names.PageId.{PageId}
use Rattle.cloak_base.specs.declared.names.SpaceId.{SpaceId}
use Rattle.cloak_model.specs.Cloaking.{CloakedMemory, with_shown_frame, settle, offer}
use Rattle.cloak_model.specs.Contexts.{same_space}
use Rattle.shadow_fold.specs.Agreement.{IsMapped}
use Rattle.shadow_fold.specs.Entries.{is_table, is_of_space}
use Rattle.shadow_fold.specs.Keeping.{Agrees}
use Rattle.shadow_fold.specs.Table.{Table, ending, killed}
use Rattle.shadow_law.specs.Agreeing.{HeldPages, present, frame, OwedIsHeld, CleanIsShown}

-- a frame is written
abbrev pub WriteAgrees : Type 0
WriteAgrees = (held : HeldPages) (m : CloakedMemory) (f : ℕ) (bytes : List ℕ) (t : Table) → Agrees (present held m) t
    → Agrees (present held (with_shown_frame f bytes m)) (ending (is_table (frame f)) t)

-- a frame is settled, and may hold a page no more
abbrev pub TouchAgrees : Type 0
TouchAgrees = (held held' : HeldPages) (m : CloakedMemory) (f : ℕ) (t : Table) → ((x : ℕ) → x ≢ f → held' x ≡ held x)
    → Agrees (present held m) t → Agrees (present held' (settle f m).memory) (killed (frame f) t)

-- a page is offered in the frame that holds it
abbrev pub HeldAgrees : Type 0
HeldAgrees = (held : HeldPages) (m : CloakedMemory) (q : PageId) (g : ℕ) (write : Bool) (t : Table) → OwedIsHeld held m
    → CleanIsShown held m → held g ≡ Some q
    → Agrees (present held m) t → Agrees (present held (offer q g write m).memory) t

-- a page is offered in a frame, and no other frame holds it
abbrev pub GrantAgrees : Type 0
GrantAgrees = (held held' : HeldPages) (m : CloakedMemory) (q : PageId) (g : ℕ) (write : Bool) (t : Table)
    → OwedIsHeld held m → ((x : ℕ) → held x ≡ Some q → x ≡ g) → ((x : ℕ) → x ≢ g → held' x ≡ held x)
    → Agrees (present held m) t → Agrees (present held' (offer q g write m).memory) (killed (frame g) t)

-- a page that no frame holds is offered in an outside frame, and is not granted: no entry ends
abbrev pub RefuseAgrees : Type 0
RefuseAgrees = (held : HeldPages) (m : CloakedMemory) (q : PageId) (g : ℕ) (write : Bool) (t : Table) → OwedIsHeld held m
    → ((x : ℕ) → held x ≢ Some q) → held g ≡ None → (offer q g write m).granted ≡ false
    → Agrees (present held m) t → Agrees (present held (offer q g write m).memory) t

-- the regions of a space change
abbrev pub RemapAgrees : Type 0
RemapAgrees = (mapped mapped' : SpaceId → ℕ → Option PageId) (s : SpaceId) (t : Table)
    → ((u : SpaceId) (va : ℕ) → same_space u s ≡ false → mapped' u va ≡ mapped u va)
    → All (IsMapped mapped) t.live → All (IsMapped mapped') (ending (is_of_space s) t).live
