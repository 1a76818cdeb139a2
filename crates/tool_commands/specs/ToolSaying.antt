-- The tools say a text, and do nothing else.
use Rattle.std.specs.Prelude.{◌≡◌, List, ℕ}
use Rattle.command_parts.specs.Outside.{Outside}
use Rattle.command_parts.specs.declared.status.Status.{Status}
use Rattle.command_parts.specs.declared.status.Status.TheVariants as status
use Rattle.disassembly.specs.Disassembling.{ShowsText}

-- no file was asked for anything
pub record Says {S O : Type 0} (text : List ℕ) (meant : Status) (before after : Outside S O) (answer : Status) : Type 0 where
  pub shown : ShowsText text meant before.output after.output answer
  pub untouched : after.files ≡ before.files
