-- A hart is named that the bundle does not have.
use Rattle.std.specs.Prelude.{ℕ, ◌≡◌, ◌⊎◌, Bool, true, List, codes, Option, Some, None, nat_lt}
use Rattle.io_traits.specs.Told.{Grows, GrowsByFront, Rose}
use Rattle.command_parts.specs.Outside.{Outside, Output}
use Rattle.command_parts.specs.declared.status.Status.{Status}
use Rattle.command_parts.specs.declared.status.Status.TheVariants as status

-- of so many harts the one that is named is one, if one is named
abbrev pub is_there : Option ℕ → (harts : ℕ) → Bool
is_there None harts = true
is_there (Some hart) harts = nat_lt hart harts

abbrev pub no_hart_line : List ℕ
no_hart_line = codes "usage: no such hart\n"

-- the line was shown
pub record ShowsNoHart {O : Type 0} (before after : Output O) (answer : Status) : Type 0 where
  pub answered : answer ≡ status.Usage
  pub line_shown : Grows before.taken after.taken no_hart_line
  pub faults : after.faults ≡ before.faults

-- a front of it was shown
pub record ShowsNoHartFront {O : Type 0} (before after : Output O) (answer : Status) : Type 0 where
  pub answered : answer ≡ status.WriteFault
  pub front_shown : GrowsByFront before.taken after.taken no_hart_line
  pub faults : Rose before.faults after.faults

abbrev pub SaysNoHart : {O : Type 0} → Output O → Output O → Status → Type 0
SaysNoHart before after answer = ShowsNoHart before after answer ⊎ ShowsNoHartFront before after answer

-- The line says why nothing was read of the record.
pub record RefusesHart {S O : Type 0} (before after : Outside S O) (answer : Status) : Type 0 where
  pub reading : after.files.reading ≡ before.files.reading
  pub line : SaysNoHart before.output after.output answer
