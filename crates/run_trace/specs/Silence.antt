-- An emitter that discards everything.
use Rattle.std.specs.Prelude.{List}
use Rattle.cloak_model.specs.Exchange.{Piece}
use Rattle.run_trace.specs.declared.silent.Silence.{Silence}

-- whatever it is given, nothing is written
abbrev pub GaveSilence : Silence → Silence → List Piece → Type 0
GaveSilence first now pieces = Unit {0}
