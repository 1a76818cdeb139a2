-- An emitter that hears console bytes.
use Rattle.std.specs.Prelude.{List}
use Rattle.cloak_model.specs.Exchange.{Piece}
use Rattle.draw_command.specs.declared.ear.Ear.{Ear}

-- whatever it is given, nothing is written
abbrev pub GaveEar : Ear → Ear → List Piece → Type 0
GaveEar first now pieces = Unit {0}
