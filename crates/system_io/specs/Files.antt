-- What the shelf over a disk, and the sink over an output, stand for.
use Rattle.std.specs.Prelude.{◌≡◌, ◌≤◌, ◌+◌, ℕ, Bool, cond, List, [], ◌++◌, length, take, drop, Option, None, IfSome, IsSome, false}
use Rattle.std.specs.Prelude.{IsNone, IsTrue}
use Rattle.std.specs.Str.{bytes_eq}
use Rattle.std.specs.Io.KnownBytes.{append_known}

-- how often showing failed, what was taken, if the output tells its bytes, and what of it is gathered
pub record OutputState : Type 0 where
  pub faults : ℕ
  pub taken : Option (List ℕ)
  pub gathered : List ℕ

-- the sink over an output to which nothing was put yet
abbrev pub fresh_sink : Option (List ℕ) → OutputState
fresh_sink shown = record { faults = 0; taken = shown; gathered = [] }

-- a file that is read ahead: the open file and its name, where the next read of it begins, and the bytes that were read
-- ahead, which stand in the file from a place on
pub record ReaderState (F : Type 0) : Type 0 where
  pub source : Option F
  pub name : List ℕ
  pub position : ℕ
  pub window : List ℕ
  pub start : ℕ

-- the open file has the name and the place of the state, and what was read ahead stands in it as far as its bytes are told
pub record IsAhead {F : Type 0} (told : List ℕ → Option (List ℕ)) (is_of : F → List ℕ → Type 0) (is_at : F → ℕ → Type 0)
    (s : ReaderState F) (file : F) : Type 0 where
  pub named : is_of file s.name
  pub placed : is_at file s.position
  pub ahead : IfSome (told s.name) (λ all. s.window ≡ take (length s.window) (drop s.start all))

-- the same, if a file is open
abbrev pub IsReading : {F : Type 0} → (List ℕ → Option (List ℕ)) → (F → List ℕ → Type 0) → (F → ℕ → Type 0) →
    ReaderState F → Type 0
IsReading told is_of is_at s = IfSome s.source (IsAhead told is_of is_at s)

-- n bytes from a place on stand after the first bytes of a window, which are kept, and none only at the end
pub record IsFilled (all : List ℕ) (at kept n : ℕ) (old new : List ℕ) : Type 0 where
  pub within : n ≤ length (drop at all)
  pub filled : take (kept + n) new ≡ take kept old ++ take n (drop at all)
  pub at_end : n ≡ 0 → length all ≤ at

-- how often reading and writing failed, the name of the file of which reading failed last, if it is kept, the disk, the
-- name of the file that is being written, what is gathered for it, and whether a file is being read
pub record ShelfState (D : Type 0) : Type 0 where
  pub reading : ℕ
  pub unread : Option (List ℕ)
  pub writing : ℕ
  pub disk : D
  pub is_open : Bool
  pub name : List ℕ
  pub gathered : List ℕ
  pub is_reading : Bool

-- the shelf over a disk on which nothing was done yet
abbrev pub fresh_shelf : {D : Type 0} → D → ShelfState D
fresh_shelf {D} disk = record {
  reading = 0;
  unread = None;
  writing = 0;
  disk = disk;
  is_open = false;
  name = [];
  gathered = [];
  is_reading = false;
}

-- The open file is the one of its name. Something is gathered only if a file is being written and none is read.
pub record IsSound {F : Type 0} (told : List ℕ → Option (List ℕ)) (is_of : F → List ℕ → Type 0) (is_at : F → ℕ → Type 0)
    (file : Option F) (name gathered : List ℕ) (reader : ReaderState F) : Type 0 where
  pub named : IfSome file (λ f. is_of f name)
  pub idle : IsNone file → gathered ≡ []
  pub apart : IsSome reader.source → gathered ≡ []
  pub reads : IsReading told is_of is_at reader

-- what is gathered for a name
abbrev pub gathered_for : {D : Type 0} → ShelfState D → List ℕ → List ℕ
gathered_for s name = cond (bytes_eq name s.name) s.gathered []

-- the bytes of a name: those on the disk, and then what is gathered for it
unfoldable pub held_in : {D : Type 0} → (D → List ℕ → Option (List ℕ)) → ShelfState D → List ℕ → Option (List ℕ)
held_in told s name = append_known (told s.disk name) (gathered_for s name)

-- the file of this name is being written
abbrev pub IsOpen : {D : Type 0} → List ℕ → ShelfState D → Type 0
IsOpen name s = IsTrue s.is_open × (s.name ≡ name)

-- no call failed
abbrev pub SameCounts : {D : Type 0} → ShelfState D → ShelfState D → Type 0
SameCounts old new = (new.reading ≡ old.reading) × (new.writing ≡ old.writing) × (new.unread ≡ old.unread)

-- the same file is being written
abbrev pub SameFile : {D : Type 0} → ShelfState D → ShelfState D → Type 0
SameFile old new = (new.is_open ≡ old.is_open) × (new.name ≡ old.name)
