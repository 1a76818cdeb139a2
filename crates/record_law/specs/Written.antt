-- What a run writes to its record is the record of its exchange.
use Rattle.std.specs.Prelude.{◌≡◌}
use Rattle.cloak_model.specs.Exchange.{recorded_bytes}
use Rattle.cloak_model.specs.Run.{Run, due, record_bytes}

abbrev pub WritesItsRecord : Type 0
WritesItsRecord = (r : Run) → recorded_bytes (due r) ≡ record_bytes r
