-- What is due is one list of pieces, those for the record and those for the output in their order. It was written whole, or
-- a front of it.
use Rattle.std.specs.Prelude.{ℕ, ◌≡◌, ◌⊎◌, List, []}
use Rattle.cloak_model.specs.Exchange.{Piece, recorded_bytes, shown_bytes}
use Rattle.io_traits.specs.Told.{Tells, Grows, OtherFiles}
use Rattle.command_parts.specs.Outside.{Outside, Raised}
use Rattle.run_command.specs.Outlet.{Cut, pieces_left, FailedAt}

-- These pieces were written, those for the record to the file of this name, which was begun.
pub record HasWritten {S O : Type 0} (pieces : List Piece) (name : List ℕ) (before after : Outside S O) : Type 0 where
  pub file : Tells (after.files.held name) (recorded_bytes pieces)
  pub output : Grows before.output.taken after.output.taken (shown_bytes pieces)

-- Of them, record and output have what is left when they are cut at one place, and the fault count of the place where
-- the piece there goes rose.
pub record IsCutOff {S O : Type 0} (pieces : List Piece) (name : List ℕ) (before after : Outside S O) : Type 0 where
  pub cut : Cut pieces
  pub left : HasWritten (pieces_left cut) name before after
  pub fault : FailedAt Raised cut.piece before after

-- The record could not be begun: it has its bytes, or none, and nothing was shown.
pub record BeginsNoRecord {S O : Type 0} (name : List ℕ) (before after : Outside S O) : Type 0 where
  pub file : (after.files.held name ≡ before.files.held name) ⊎ Tells (after.files.held name) []
  pub others : OtherFiles name before.files.held after.files.held
  pub untouched : after.output ≡ before.output
  pub writing : Raised before.files.writing after.files.writing
