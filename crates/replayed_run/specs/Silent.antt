-- An emitter that discards everything.
use Rattle.std.specs.Prelude.{List}
use Rattle.cloak_model.specs.Exchange.{Piece}
use Rattle.replayed_run.specs.declared.silent.Silent.{Silent}

-- whatever it is given, nothing is written
abbrev pub GaveSilent : Silent → Silent → List Piece → Type 0
GaveSilent first now pieces = Unit {0}
