-- What a write does to the files of a disk.
use Rattle.std.specs.Prelude.{ℕ, ◌≡◌, List, Option}
use Rattle.std.specs.Io.KnownBytes.{append_known}
use Rattle.io_traits.specs.Told.{OtherFiles}

-- a piece stands at the end of the file of a name, if its bytes are told, and other files stay
pub record Extends (old new : List ℕ → Option (List ℕ)) (name piece : List ℕ) : Type 0 where
  pub grown : new name ≡ append_known (old name) piece
  pub others : OtherFiles name old new
