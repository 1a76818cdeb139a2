-- What words may ask for, and what is common to all commands if no call on files or output fails.
use Rattle.std.specs.Prelude.{ℕ, ◌≡◌, List, Option, Some}
use Rattle.cloak_model.specs.declared.image.Bundle.{Bundle}
use Rattle.cloak_model.specs.Bundle.{IsBundle}
use Rattle.io_traits.specs.Told.{Grows, SameFiles}
use Rattle.command_parts.specs.declared.refusal.Refusal.TheVariants as refusal
use Rattle.command_parts.specs.declared.status.Status.{Status}
use Rattle.command_parts.specs.declared.status.Status.TheVariants as status
use Rattle.command_parts.specs.Outside.{Outside}
use Rattle.command_parts.specs.Refusal.{refusal_line}

-- The file of this name is this bundle.
pub record IsBundleFile (held : List ℕ → Option (List ℕ)) (name : List ℕ) (bundle : Bundle) : Type 0 where
  pub bytes : List ℕ
  pub told : held name ≡ Some bytes
  pub is : IsBundle bytes bundle

-- no file was written, and this was shown
pub record OnlyLine {S O : Type 0} (line : List ℕ) (before after : Outside S O) : Type 0 where
  pub held : SameFiles before.files.held after.files.held
  pub shown : Grows before.output.taken after.output.taken line

-- there was no memory to begin with
pub record WantsMemory {S O : Type 0} (answer : Status) (before after : Outside S O) : Type 0 where
  pub status : answer ≡ status.NoMemory
  pub line : OnlyLine (refusal_line refusal.NoMemory) before after
