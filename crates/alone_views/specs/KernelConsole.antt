-- What a kernel that runs alone knows of its console.
use Rattle.std.specs.Prelude.{ℕ, ◌<◌, ◌^◌, List, length}
use Rattle.kernel_report.specs.Console.{ConsoleShows}
use Rattle.kernel_report.specs.declared.console.Console.{Console}

-- the console was shown these bytes, as long as they can be counted
abbrev pub ConsoleCounts : Console → List ℕ → Type 0
ConsoleCounts c bytes = length bytes < 2 ^ 64 → ConsoleShows c bytes
