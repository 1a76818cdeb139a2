-- The initialization vectors that a run keeps, and that its files show: none of them is a key by its place in the random
-- stream. The draws of a stream are numbered from 0 (`page_law`, `specs/Ciphers`).
use Rattle.std.specs.Prelude.{ℕ, ◌≡◌, ◌≤◌, ◌⊎◌, List, [], ◌∷◌, ◌++◌, map, slice_get, All, IfSome, IsSomeAnd, Option, Some, None, Ok}
use Rattle.std.specs.List.{Any, flat_map}
use Rattle.cloak_base.specs.Random.{Random}
use Rattle.cloak_base.specs.declared.names.Meta.{Meta}
use Rattle.cloak_base.specs.declared.names.PageId.{PageId}
use Rattle.cloak_model.specs.declared.image.Bundle.{Bundle}
use Rattle.cloak_model.specs.declared.image.Program.{Program}
use Rattle.cloak_model.specs.Beginning.{Beginning, Fresh, Stored}
use Rattle.cloak_model.specs.Ledger.{Ledger}
use Rattle.cloak_model.specs.Run.{Run, run_from}
use Rattle.cloak_model.specs.StoredFiles.{StoredFile, table_of}
use Rattle.cloak_model.specs.StoredRun.{contents_of}
use Rattle.frozen_state.specs.declared.frozen.Frozen.{Frozen}
use Rattle.frozen_state.specs.declared.frozen.FrozenDomain.{FrozenDomain}
use Rattle.frozen_state.specs.declared.frozen.FrozenFrame.{FrozenFrame}
use Rattle.frozen_state.specs.declared.frozen.FrozenPage.{FrozenPage}
use Rattle.frozen_state.specs.FrozenState.{frozen_of}
use Rattle.kernel_isolation.specs.Isolation.{joint_until}
use Rattle.page_law.specs.Ciphers.{draw_at, keys_drawn, stream_of}

-- A draw of the run's stream after those that are keys. If the keys are handed in, none is one.
pub record IsLaterDraw (programs : List Program) (from : Beginning) (iv : List ℕ) : Type 0 where
  pub number : ℕ
  pub not_key : keys_drawn programs from ≤ number
  pub is : draw_at number (stream_of from) ≡ Some iv

-- A store file tells of a page that it was last shown under this vector.
abbrev pub IsToldBy : List StoredFile → List ℕ → Type 0
IsToldBy table iv =
    Any (λ (f : StoredFile). Any (λ (page : Option Meta). IsSomeAnd page (λ m. m.iv ≡ iv)) f.pages) table

-- So does the one over which the run began. A fresh run has none.
abbrev pub IsToldBefore : Beginning → List ℕ → Type 0
IsToldBefore (Fresh stream) iv = ⊥
IsToldBefore (Stored keys stream files) iv = IsToldBy (table_of files) iv

-- A vector of a run: a draw that is no key, or one from an earlier run.
abbrev pub IsNoKey : List Program → Beginning → List ℕ → Type 0
IsNoKey programs from iv = IsLaterDraw programs from iv ⊎ IsToldBefore from iv

-- At each moment.

-- the vectors under which pages were last shown
abbrev pub HasNoKeys : List Program → Beginning → Ledger → Type 0
HasNoKeys programs from l = (q : PageId) (iv : List ℕ) → l.iv q ≡ Some iv → IsNoKey programs from iv

-- The law, of every moment of each run.
abbrev pub RunsKeepNoKeys : Type 0
RunsKeepNoKeys =
    (b : Bundle) (from : Beginning) (budget : ℕ) (r : Run) → run_from b from budget ≡ Ok r → (n : ℕ) →
    HasNoKeys b.programs from (joint_until n r).memory.ledger

-- A frozen state.

-- the vector of a page that a frame is owed
abbrev pub owed_vector : Option (PageId × Meta) → List (List ℕ)
owed_vector None = []
owed_vector (Some owed) = owed.1.iv ∷ []

-- the vectors under which it shows its programs, and then the pages that frames are owed
abbrev pub fresh_vectors : Frozen → List (List ℕ)
fresh_vectors f =
    map (λ (d : FrozenDomain). d.meta.iv) f.domains ++ flat_map (λ (frame : FrozenFrame). owed_vector frame.owed) f.frames

-- These are the draws of the vectors that were handed in, one after another, and none of them is of the run's stream. Those
-- that it tells of recorded pages are of the run's stream, and none of them is a key.
pub record ShowsNoKey (programs : List Program) (stream ivs : Random) (f : Frozen) : Type 0 where
  pub fresh : (n : ℕ) (iv : List ℕ) → slice_get (fresh_vectors f) n ≡ Some iv → draw_at n ivs ≡ Some iv
  pub recorded : All (λ (p : FrozenPage). IsLaterDraw programs (Fresh stream) p.meta.iv) f.recorded

-- The law, of every state with which a fresh run is frozen.
abbrev pub StatesShowNoKey : Type 0
StatesShowNoKey =
    (b : Bundle) (stream : Random) (budget : ℕ) (r : Run) → run_from b (Fresh stream) budget ≡ Ok r →
    (n steps : ℕ) (ivs : Random) (f : Frozen) → frozen_of (joint_until n r) steps ivs ≡ Some f →
    ShowsNoKey b.programs stream ivs f

-- A store file.

-- it tells of no page that it was shown under a key
abbrev pub TellsNoKey : List Program → Beginning → List StoredFile → Type 0
TellsNoKey programs from table =
    All (λ (f : StoredFile). All (λ (page : Option Meta). IfSome page (λ m. IsNoKey programs from m.iv)) f.pages) table

-- The law, of what each run leaves.
abbrev pub StoresTellNoKey : Type 0
StoresTellNoKey =
    (b : Bundle) (from : Beginning) (budget : ℕ) (r : Run) → run_from b from budget ≡ Ok r →
    TellsNoKey b.programs from (table_of (contents_of r.closed.joint))
