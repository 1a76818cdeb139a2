-- What a program returns as it ends.
use Rattle.std.specs.Prelude.{◌≡◌, ◌⊎◌}
use Rattle.io_traits.specs.Told.{Rose, SameFiles}
use Rattle.command_parts.specs.declared.status.Status.{Status}
use Rattle.command_parts.specs.declared.status.Status.TheVariants as status
use Rattle.command_parts.specs.Outside.{Outside, NothingRose}

-- a call that writes out what is gathered failed
abbrev pub FlushFailed : {S O : Type 0} → Outside S O → Outside S O → Type 0
FlushFailed before after =
    Rose before.files.writing after.files.writing ⊎ Rose before.output.faults after.output.faults

-- What is gathered was written out, and the answer is given, or, if that failed, the write fault.
pub record WritesOut {S O : Type 0} (answer : Status) (before after : Outside S O) (given : Status) : Type 0 where
  pub held : SameFiles before.files.held after.files.held
  pub taken : after.output.taken ≡ before.output.taken
  pub reading : after.files.reading ≡ before.files.reading
  pub outcome : ((given ≡ answer) × NothingRose before after) ⊎ ((given ≡ status.WriteFault) × FlushFailed before after)

-- What was done, and what was answered by these answers; then what is gathered was written out.
pub record Exits {S O : Type 0} (answers_so : Outside S O → Outside S O → Status → Type 0) (before after : Outside S O)
    (given : Status) : Type 0 where
  pub done : Outside S O
  pub answer : Status
  pub answers : answers_so before done answer
  pub written : WritesOut answer done after given
