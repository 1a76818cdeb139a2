-- Where a schedule is.
use Rattle.std.specs.Prelude.{ℕ, ◌≡◌, ◌%◌, length}
use Rattle.cloak_machine.specs.declared.schedule.Schedule.{Schedule}

-- this many steps were made
abbrev pub IsAt : Schedule → ℕ → Type 0
IsAt schedule steps = schedule.place ≡ steps % length schedule.turns.items
