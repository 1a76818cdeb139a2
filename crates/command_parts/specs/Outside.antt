-- What is outside: the files of a shelf, and an output.
use Rattle.std.specs.Prelude.{ℕ, ◌≡◌, ◌<◌, List, Option}
use Rattle.io_traits.specs.declared.shelf.Shelf as shelves
use Rattle.io_traits.specs.declared.sink.Sink as sinks
use Rattle.io_traits.specs.Told.{Rose, SameFiles}

-- a shelf, the bytes of its files by their names as far as it tells them, how often reading and writing them failed, and
-- the name of the file of which reading failed last, if it tells it
pub record FilesOutside (S : Type 0) : Type 0 where
  pub shelf : S
  pub held : List ℕ → Option (List ℕ)
  pub reading : ℕ
  pub unread : Option (List ℕ)
  pub writing : ℕ

-- an output, its bytes as far as it tells them, and how often it failed
pub record Output (O : Type 0) : Type 0 where
  pub out : O
  pub taken : Option (List ℕ)
  pub faults : ℕ

pub record Outside (S O : Type 0) : Type 0 where
  pub files : FilesOutside S
  pub output : Output O

-- what this shelf and this output tell

abbrev pub files : {S : Type 0} → shelves.Ghosts S → S → FilesOutside S
files shelf s = record {
  shelf = s;
  held = shelf.held s;
  reading = shelf.reading_faults s;
  unread = shelf.unread s;
  writing = shelf.writing_faults s;
}

abbrev pub output : {O : Type 0} → sinks.Ghosts O → O → Output O
output sink o = record { out = o; taken = sink.taken o; faults = sink.faults o }

abbrev pub outside : {S O : Type 0} → shelves.Ghosts S → sinks.Ghosts O → S → O → Outside S O
outside shelf sink s o = record { files = files shelf s; output = output sink o }

-- A count of faults is greater, as a call that failed leaves it.
pub record Raised (before now : ℕ) : Type 0 where
  pub greater : before < now
  pub by_call : Rose before now

-- the files keep their bytes, and no call on them failed
pub record OnlyRead {S : Type 0} (before after : FilesOutside S) : Type 0 where
  pub held : SameFiles before.held after.held
  pub reading : after.reading ≡ before.reading
  pub writing : after.writing ≡ before.writing

-- no call failed
pub record NothingRose {S O : Type 0} (before after : Outside S O) : Type 0 where
  pub reading : after.files.reading ≡ before.files.reading
  pub writing : after.files.writing ≡ before.files.writing
  pub faults : after.output.faults ≡ before.output.faults
