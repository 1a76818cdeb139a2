-- What adding a piece to a file did.
use Rattle.std.specs.Prelude.{ℕ, ◌≡◌, Bool, true, false, List}
use Rattle.io_traits.specs.Told.{Grows, GrowsByFront, Rose, OtherFiles}
use Rattle.command_parts.specs.Outside.{FilesOutside}

-- A piece was added to the file of this name: all of it, or a front of it if that failed.
pub record Adds {S : Type 0} (failed : Bool) (name : List ℕ) (before after : FilesOutside S) (piece : List ℕ) : Type 0
  where
    pub whole : failed ≡ false → Grows (before.held name) (after.held name) piece
    pub front : failed ≡ true → GrowsByFront (before.held name) (after.held name) piece
    pub others : OtherFiles name before.held after.held
    pub no_fault : failed ≡ false → after.writing ≡ before.writing
    pub fault : failed ≡ true → Rose before.writing after.writing
    pub reading : after.reading ≡ before.reading
