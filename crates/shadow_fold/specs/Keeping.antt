-- The agreement of live entries, through the calls of a table.
use Rattle.std.specs.Prelude.{ℕ, ◌≡◌, Bool, true, false, ◌∷◌, find, Some}
use Rattle.std.specs.List.{All}
use Rattle.std.specs.List.Sorted.{IsPermutation}
use Rattle.cloak_base.specs.declared.names.Kind.{Kind}
use Rattle.shadow_fold.specs.declared.entry.Entry.{Entry}
use Rattle.shadow_fold.specs.declared.entry.Regime.{Regime}
use Rattle.shadow_fold.specs.Agreement.{Present, EntryAgrees}
use Rattle.shadow_fold.specs.Entries.{is_for}
use Rattle.shadow_fold.specs.Table.{Table, ending, with_room}

-- every live entry agrees
abbrev pub Agrees : Present → Table → Type 0
Agrees p t = All (EntryAgrees p) t.live

-- a hit: what is found is for the access, and agrees
abbrev pub FoundAgrees : Type 0
FoundAgrees = (p : Present) (regime : Regime) (page : ℕ) (kind : Kind) (t : Table) (e : Entry) → Agrees p t
    → find (is_for regime page kind) t.live ≡ Some e → (is_for regime page kind e ≡ true) × EntryAgrees p e

-- A change of memory, and a call that ends entries: enough is that each entry that does not end agrees afterwards.
abbrev pub EndingKeeps : Type 0
EndingKeeps = (p p' : Present) (ends : Entry → Bool) (t : Table)
    → ((e : Entry) → ends e ≡ false → EntryAgrees p e → EntryAgrees p' e) → Agrees p t → Agrees p' (ending ends t)

-- a miss: an entry that agrees becomes live
abbrev pub InsertKeeps : Type 0
InsertKeeps = (p : Present) (e : Entry) (old new : Table) → IsPermutation (e ∷ (with_room old).live) new.live
    → EntryAgrees p e → Agrees p old → Agrees p new
