-- Live entries go on agreeing with the joint machine's memory through each change of it, and a hit gives what a walk
-- would.
use Rattle.std.specs.Prelude.{ℕ, ◌≡◌, ◌≢◌, ◌+◌, ◌/◌, ◌%◌, ◌<◌, Bool, true, false, List, [], ◌++◌, map, length, slice_index_or, Option, Some, None, Ok, IfSome}
use Rattle.cloak_base.specs.Pages.{same_page}
use Rattle.cloak_base.specs.declared.names.Frame.{Frame}
use Rattle.cloak_base.specs.declared.names.Kind.{Kind}
use Rattle.cloak_base.specs.declared.names.PageId.{PageId}
use Rattle.cloak_base.specs.declared.names.SpaceId.{SpaceId}
use Rattle.cloak_model.specs.declared.access.Walked.{Walked}
use Rattle.cloak_model.specs.Ask.{ask_translate}
use Rattle.cloak_model.specs.AskPages.{is_store}
use Rattle.cloak_model.specs.Cloaking.{CloakedMemory, owed_in, with_shown_frame, with_owed, settle, offer}
use Rattle.cloak_model.specs.Contexts.{same_space}
use Rattle.cloak_model.specs.Memory.{is_in_ram}
use Rattle.cloak_model.specs.Walk.{walk}
use Rattle.cloak_model.specs.Events.{Event, Touch}
use Rattle.cloak_model.specs.World.{MidStep, Cloaked, noted}
use Rattle.shadow_fold.specs.declared.entry.Entry.{Entry}
use Rattle.shadow_fold.specs.declared.entry.Regime.{Regime}
use Rattle.shadow_fold.specs.Agreement.{Present, EntryAgrees, TargetAgrees, IsMapped, satp_in, access_in, start_of}
use Rattle.shadow_fold.specs.Entries.{is_target, is_table, is_of_space}
use Rattle.shadow_fold.specs.Fold.{part_holds, entry_of}
use Rattle.shadow_law.specs.Walks.{listed}

-- what each frame holds
abbrev pub HeldPages : Type 0
HeldPages = ℕ → Option PageId

-- the present of the joint machine's memory
abbrev pub present : HeldPages → CloakedMemory → Present
present held m = record { ram = m.ram; held = held; owed = owed_in m }

abbrev pub frame : ℕ → Frame
frame f = record { 0 = f }

-- a frame that is owed a page holds it
abbrev pub OwedIsHeld : HeldPages → CloakedMemory → Type 0
OwedIsHeld held m = (f : ℕ) (q : PageId) → owed_in m f ≡ Some q → held f ≡ Some q

-- bytes of a frame are written that is no table frame of the entry
abbrev pub WriteKeeps : Type 0
WriteKeeps = (held : HeldPages) (m : CloakedMemory) (f : ℕ) (bytes : List ℕ) (e : Entry)
    → is_table (frame f) e ≡ false → EntryAgrees (present held m) e
    → EntryAgrees (present held (with_shown_frame f bytes m)) e

-- A frame is settled, and may hold a page no more: the entry leads neither there nor through it.
abbrev pub TouchKeeps : Type 0
TouchKeeps = (held held' : HeldPages) (m : CloakedMemory) (f : ℕ) (e : Entry)
    → ((x : ℕ) → x ≢ f → held' x ≡ held x)
    → is_target (frame f) e ≡ false → is_table (frame f) e ≡ false → EntryAgrees (present held m) e
    → EntryAgrees (present held' (settle f m).memory) e

-- Page q is offered in frame g, however that ends, which may change what g and the frames hold that held q. The entry
-- leads to none of them, nor through one.
abbrev pub OfferKeeps : Type 0
OfferKeeps = (held held' : HeldPages) (m : CloakedMemory) (q : PageId) (g : ℕ) (write : Bool) (e : Entry)
    → OwedIsHeld held m → ((x : ℕ) → x ≢ g → held x ≢ Some q → held' x ≡ held x)
    → is_target (frame g) e ≡ false → is_table (frame g) e ≡ false → part_holds held (same_page q) e ≡ false
    → EntryAgrees (present held m) e → EntryAgrees (present held' (offer q g write m).memory) e

-- the page that a frame holds is changed: every entry goes on
abbrev pub ChangeKeeps : Type 0
ChangeKeeps = (held : HeldPages) (m : CloakedMemory) (q : PageId) (g : ℕ) (e : Entry) → held g ≡ Some q
    → EntryAgrees (present held m) e → EntryAgrees (present held (with_owed g (Some q) m)) e

-- the regions of a space change of which the entry is not: its page lies at its address still
abbrev pub RemapKeeps : Type 0
RemapKeeps = (mapped mapped' : SpaceId → ℕ → Option PageId) (s : SpaceId) (e : Entry) → is_of_space s e ≡ false
    → ((t : SpaceId) (va : ℕ) → same_space t s ≡ false → mapped' t va ≡ mapped t va)
    → IsMapped mapped e → IsMapped mapped' e

-- the table frames of a walk are outside
pub record AreOutside (held : HeldPages) (w : Walked) : Type 0 where
  pub first : IfSome w.pt1 (λ f. held f.0 ≡ None)
  pub second : IfSome w.pt0 (λ f. held f.0 ≡ None)

-- a miss makes an entry that agrees
abbrev pub BornAgrees : Type 0
BornAgrees = (p : Present) (regime : Regime) (va : ℕ) (kind : Kind) (w : Walked) (cloaked : Option PageId)
    → walk p.ram (satp_in regime) (access_in regime va kind) ≡ Ok w → is_in_ram p.ram w.pa ≡ true → AreOutside p.held w
    → let e = entry_of regime (va / 4096) kind w cloaked in
    TargetAgrees p e cloaked → EntryAgrees p e

-- these frames are touched
abbrev pub touches : List ℕ → List Event
touches frames = map Touch frames

-- the walk of an address of an entry's page
abbrev pub entry_walk : Entry → ℕ → Walked
entry_walk e va = record { pa = start_of e.frame.0 + va % 4096; pt1 = e.pt1; pt0 = e.pt0 }

-- At a hit the walk is that of the entry, with nothing settled and nothing shown. Its table frames are touched.
abbrev pub HitIsWalk : Type 0
HitIsWalk = (held : HeldPages) (c : MidStep) (e : Entry) (va : ℕ) → OwedIsHeld held c.memory
    → EntryAgrees (present held c.memory) e → va / 4096 ≡ e.page → e.frame.0 < length c.memory.ram
    → ask_translate (satp_in e.regime) (access_in e.regime va e.kind) (Cloaked c)
    ≡ record {
      answer = Ok (entry_walk e va);
      world = noted (touches (listed e.pt1 ++ listed e.pt0)) (Cloaked c);
    }

-- A frame that holds a page and is owed nothing has the bytes that were last shown of the page, and no frame hides
-- newer ones.
pub record CleanIsShown (held : HeldPages) (m : CloakedMemory) : Type 0 where
  pub shown : (f : ℕ) (q : PageId) → held f ≡ Some q → owed_in m f ≡ None
      → m.ledger.recorded q ≡ Some (slice_index_or m.ram f [])
  pub newest : (f g : ℕ) (q : PageId) → held f ≡ Some q → owed_in m f ≡ None → owed_in m g ≢ Some q

-- At a hit of a cloaked page an offer of it changes nothing.
abbrev pub HitIsOffer : Type 0
HitIsOffer = (held : HeldPages) (m : CloakedMemory) (e : Entry) (q : PageId) → OwedIsHeld held m
    → CleanIsShown held m → EntryAgrees (present held m) e → e.cloaked ≡ Some q
    → offer q e.frame.0 (is_store e.kind) m ≡ record { memory = m; ciphers = []; granted = true }
