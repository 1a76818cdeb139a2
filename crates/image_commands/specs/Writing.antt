-- What becomes of files and output as a file is written, and then a line is shown.
use Rattle.std.specs.Prelude.{ℕ, ◌≡◌, ◌⊎◌, List}
use Rattle.io_traits.specs.Told.{OtherFiles}
use Rattle.command_parts.specs.Outside.{FilesOutside, Outside, Raised}
use Rattle.image_commands.specs.Showing.{IsShown, IsShownInPart}
use Rattle.command_parts.specs.Files.{WritesFile, TellsFront}

-- Writing the file failed: it has the bytes that it had, as it could not be begun, or a front of these.
pub record FailsToWrite {S : Type 0} (bytes name : List ℕ) (before after : FilesOutside S) : Type 0 where
  pub file : (after.held name ≡ before.held name) ⊎ TellsFront (after.held name) bytes
  pub others : OtherFiles name before.held after.held
  pub reading : after.reading ≡ before.reading
  pub writing : Raised before.writing after.writing

-- the file was written, and then the line was shown
pub record HasWritten {S O : Type 0} (bytes name line : List ℕ) (before after : Outside S O) : Type 0 where
  pub file : WritesFile name bytes before.files after.files
  pub line_shown : IsShown before.output after.output line

-- the file could not be written, and nothing was shown
pub record FileFailed {S O : Type 0} (bytes name : List ℕ) (before after : Outside S O) : Type 0 where
  pub file : FailsToWrite bytes name before.files after.files
  pub untouched : after.output ≡ before.output

-- the file was written, and then a front of the line was shown
pub record LastLineFailed {S O : Type 0} (bytes name line : List ℕ) (before after : Outside S O) : Type 0 where
  pub file : WritesFile name bytes before.files after.files
  pub line_cut : IsShownInPart before.output after.output line
