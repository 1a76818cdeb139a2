-- What was added to a file.
use Rattle.std.specs.Prelude.{ℕ, ◌≡◌, ◌≤◌, ◌⊎◌, Bool, true, false, List, ◌++◌, length, take, Option}
use Rattle.sha2.specs.Hashers.{Holds256}
use Rattle.io_traits.specs.declared.shelf.Shelf as shelves
use Rattle.io_traits.specs.Told.{Tells, Grows, GrowsByFront, Rose, OtherFiles}
use Rattle.frozen_run.specs.declared.pen.Pen.{Pen}

-- These bytes were added to the file of this name, and nothing else was done to the shelf: all of them; or a front of
-- them, and the count of write faults rose.
pub record Adds {S : Type 0} (of_shelf : shelves.Ghosts S) (failed : Bool) (name : List ℕ) (before after : S)
    (bytes : List ℕ) : Type 0 where
  pub whole : failed ≡ false → Grows (of_shelf.held before name) (of_shelf.held after name) bytes
  pub front : failed ≡ true → GrowsByFront (of_shelf.held before name) (of_shelf.held after name) bytes
  pub others : OtherFiles name (of_shelf.held before) (of_shelf.held after)
  pub no_fault : failed ≡ false → of_shelf.writing_faults after ≡ of_shelf.writing_faults before
  pub fault : failed ≡ true → Rose (of_shelf.writing_faults before) (of_shelf.writing_faults after)
  pub reading : of_shelf.reading_faults after ≡ of_shelf.reading_faults before

-- if bytes are told, they are a front of these
abbrev pub TellsFront : Option (List ℕ) → List ℕ → Type 0
TellsFront told bytes = (n : ℕ) × (n ≤ length bytes) × Tells told (take n bytes)

-- The file of this name was written from nothing, and nothing else was done to the shelf: it has these bytes; or it
-- stayed as it was or has a front of them, and the count of write faults rose.
pub record Saves {S : Type 0} (of_shelf : shelves.Ghosts S) (failed : Bool) (name : List ℕ) (before after : S)
    (bytes : List ℕ) : Type 0 where
  pub whole : failed ≡ false → Tells (of_shelf.held after name) bytes
  pub front : failed ≡ true →
      (of_shelf.held after name ≡ of_shelf.held before name) ⊎ TellsFront (of_shelf.held after name) bytes
  pub others : OtherFiles name (of_shelf.held before) (of_shelf.held after)
  pub no_fault : failed ≡ false → of_shelf.writing_faults after ≡ of_shelf.writing_faults before
  pub fault : failed ≡ true → Rose (of_shelf.writing_faults before) (of_shelf.writing_faults after)
  pub reading : of_shelf.reading_faults after ≡ of_shelf.reading_faults before

-- Since the shelf was so, a pen has added these bytes. Unless it failed it has their digest.
pub record HasAdded {S : Type 0} (of_shelf : shelves.Ghosts S) (start : S) (pen : Pen S) (bytes : List ℕ) : Type 0 where
  pub adds : Adds of_shelf pen.failed pen.name.now start pen.shelf.now bytes
  pub digest : pen.failed ≡ false → Holds256 pen.digest bytes

-- Whatever a pen has added, it has then added these bytes too.
pub record AddsMore {S : Type 0} (of_shelf : shelves.Ghosts S) (old new : Pen S) (bytes : List ℕ) : Type 0 where
  pub name : new.name ≡ old.name
  pub more : (start : S) (before : List ℕ) → HasAdded of_shelf start old before →
      HasAdded of_shelf start new (before ++ bytes)
