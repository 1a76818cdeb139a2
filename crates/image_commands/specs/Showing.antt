-- A text that an output is shown, whole or in part.
use Rattle.std.specs.Prelude.{ℕ, ◌≡◌, List}
use Rattle.io_traits.specs.Told.{Grows, GrowsByFront}
use Rattle.command_parts.specs.Outside.{Output, Raised}
use Rattle.command_parts.specs.Refusal.{refusal_line}
use Rattle.command_parts.specs.declared.refusal.Refusal.TheVariants as refusal

-- the whole text was shown
pub record IsShown {O : Type 0} (before after : Output O) (text : List ℕ) : Type 0 where
  pub text_shown : Grows before.taken after.taken text
  pub faults : after.faults ≡ before.faults

-- a front of it was shown, and the output failed
pub record IsShownInPart {O : Type 0} (before after : Output O) (text : List ℕ) : Type 0 where
  pub front_shown : GrowsByFront before.taken after.taken text
  pub faults : Raised before.faults after.faults

-- the line that is shown if there is no memory
abbrev pub no_memory_line : List ℕ
no_memory_line = refusal_line refusal.NoMemory
