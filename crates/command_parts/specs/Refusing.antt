-- What becomes of the output as the line of a refusal is shown.
use Rattle.std.specs.Prelude.{◌≡◌, ◌⊎◌}
use Rattle.io_traits.specs.Told.{Grows, GrowsByFront, Rose}
use Rattle.command_parts.specs.declared.refusal.Refusal.{Refusal}
use Rattle.command_parts.specs.declared.refusal.Refusal.TheVariants as refusal
use Rattle.command_parts.specs.declared.status.Status.{Status}
use Rattle.command_parts.specs.declared.status.Status.TheVariants as status
use Rattle.command_parts.specs.Outside.{Output, Outside}
use Rattle.command_parts.specs.Refusal.{status_of_refusal, refusal_line}

-- the line of this reason was shown, and its status is the answer
pub record ShowsLine {O : Type 0} (before after : Output O) (refused : Refusal) (given : Status) : Type 0 where
  pub answer : given ≡ status_of_refusal refused
  pub line_shown : Grows before.taken after.taken (refusal_line refused)
  pub faults : after.faults ≡ before.faults

-- a front of it was shown
pub record ShowsFront {O : Type 0} (before after : Output O) (refused : Refusal) (given : Status) : Type 0 where
  pub answer : given ≡ status.WriteFault
  pub front_shown : GrowsByFront before.taken after.taken (refusal_line refused)
  pub faults : Rose before.faults after.faults

abbrev pub Refuses : {O : Type 0} → Output O → Output O → Refusal → Status → Type 0
Refuses before after refused given = ShowsLine before after refused given ⊎ ShowsFront before after refused given

-- the line of want of memory was shown, and no file was asked for anything
pub record LacksMemory {S O : Type 0} (before after : Outside S O) (answer : Status) : Type 0 where
  pub line : Refuses before.output after.output refusal.NoMemory answer
  pub untouched : after.files ≡ before.files
