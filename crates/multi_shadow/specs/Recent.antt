-- The entries that were learnt last, one of each kind of access, beside those in the arena.
use Rattle.std.specs.Prelude.{◌≡◌, ℕ, Bool, List, [], ◌∷◌, ◌++◌, Option, Some, None, IfSome, if◌then◌else◌}
use Rattle.chain_arena.specs.Arena.{Arena}
use Rattle.cloak_base.specs.declared.names.Kind.{Kind}
use Rattle.cloak_base.specs.declared.names.Kind.TheVariants.{Fetch, Load, Store}
use Rattle.shadow_fold.specs.declared.entry.Entry.{Entry}
use Rattle.shadow_fold.specs.Entries.{IsWithin}
use Rattle.multi_shadow.specs.declared.recent.Recent.{Recent}
use Rattle.multi_shadow.specs.Placed.{live_in}

-- no entry was learnt
abbrev pub no_recent : Recent
no_recent = record { fetch = None; load = None; store = None }

-- the places, each with an entry or without
abbrev pub places : Recent → List (Option Entry)
places r = r.fetch ∷ r.load ∷ r.store ∷ []

-- the recent entries, in no order that matters
abbrev pub recent_entries : Recent → List Entry
recent_entries r = live_in (places r)

-- the live entries: the recent ones, and those in the arena
abbrev pub live_of : Recent → Arena Entry → List Entry
live_of r A = recent_entries r ++ live_in A.payloads

-- the place of a kind of access
abbrev pub place_of : Kind → Recent → Option Entry
place_of Fetch r = r.fetch
place_of Load r = r.load
place_of Store r = r.store

-- the entry is in the place of this kind
abbrev pub with_place : Kind → Entry → Recent → Recent
with_place Fetch e r = record r { fetch = Some e }
with_place Load e r = record r { load = Some e }
with_place Store e r = record r { store = Some e }

-- a place, emptied if what it holds passes the test
abbrev pub left_in : {X : Type 0} → (X → Bool) → Option X → Option X
left_in ends None = None
left_in ends (Some x) = if ends x then None else Some x

-- the recent entries end that pass the test
abbrev pub left_of : (Entry → Bool) → Recent → Recent
left_of ends r = record {
  fetch = left_in ends r.fetch;
  load = left_in ends r.load;
  store = left_in ends r.store;
}

-- each place holds an entry of its kind, or none
abbrev pub AreOfKind : Recent → Type 0
AreOfKind r = (kind : Kind) → IfSome (place_of kind r) (λ e. e.kind ≡ kind)

-- the frames of the recent entries are below n
abbrev pub AreWithin : ℕ → Recent → Type 0
AreWithin n r = (kind : Kind) → IfSome (place_of kind r) (IsWithin n)
