-- The faults of a file.
use Rattle.std.specs.Prelude.{Option, Some, None, Result, Ok, Err}

-- the fault that was returned, if there was one
abbrev pub fault_of : {A F : Type 0} → Result A F → Option F
fault_of (Ok x) = None
fault_of (Err fault) = Some fault
