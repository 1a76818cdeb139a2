-- The numbers that the program exits with.
use Rattle.std.specs.Prelude.{ℕ}
use Rattle.command_parts.specs.declared.status.Status.{Status}
use Rattle.command_parts.specs.declared.status.Status.TheVariants as status

abbrev pub status_number : Status → ℕ
status_number status.Done = 0
status_number status.Violation = 1
status_number status.Usage = 2
status_number status.BadBundle = 3
status_number status.ReadFault = 4
status_number status.WriteFault = 5
status_number status.NoMemory = 6
status_number status.NoRandom = 7
status_number status.BadRecord = 8
status_number status.BadStore = 10
status_number status.Frozen = 11
status_number status.BadState = 12
