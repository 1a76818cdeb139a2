-- The answers of `gen`, each status with its cause.
use Rattle.std.specs.Prelude.{ℕ, ◌≡◌, ◌⊎◌, List}
use Rattle.cloak_model.specs.Bundle.{bundle_bytes}
use Rattle.guest_kernel.specs.Generated.{generated}
use Rattle.guest_kernel.specs.Summary.{summary_line}
use Rattle.command_parts.specs.Outside.{Outside}
use Rattle.command_parts.specs.declared.status.Status.{Status}
use Rattle.command_parts.specs.declared.status.Status.TheVariants as status
use Rattle.image_commands.specs.Showing.{IsShown, IsShownInPart, no_memory_line}
use Rattle.image_commands.specs.Writing.{FileFailed, HasWritten, LastLineFailed}

-- the bytes of the file of an image
abbrev pub image_bytes : ℕ → List ℕ
image_bytes n = bundle_bytes 2 (generated n)

-- the file was written, and then the image's line was shown
abbrev pub HasGenerated : {S O : Type 0} → ℕ → List ℕ → Outside S O → Outside S O → Type 0
HasGenerated n name before after = HasWritten (image_bytes n) name (summary_line n) before after

-- There was no memory for the image: its line was shown, and nothing was asked of files.
pub record LacksMemory {S O : Type 0} (before after : Outside S O) : Type 0 where
  pub untouched : after.files ≡ before.files
  pub line : IsShown before.output after.output no_memory_line

-- a front of that line was shown
pub record LackFailed {S O : Type 0} (before after : Outside S O) : Type 0 where
  pub untouched : after.files ≡ before.files
  pub line : IsShownInPart before.output after.output no_memory_line

-- the answer of `gen` of number n and the file of this name
abbrev pub GenAnswers : {S O : Type 0} → ℕ → List ℕ → Outside S O → Outside S O → Status → Type 0
GenAnswers n name before after status.Done = HasGenerated n name before after
GenAnswers n name before after status.WriteFault =
    FileFailed (image_bytes n) name before after
    ⊎ (LastLineFailed (image_bytes n) name (summary_line n) before after ⊎ LackFailed before after)
GenAnswers n name before after status.NoMemory = LacksMemory before after
GenAnswers n name before after answer = ⊥
