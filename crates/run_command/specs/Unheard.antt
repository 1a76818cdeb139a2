-- An emitter that discards everything.
use Rattle.std.specs.Prelude.{List}
use Rattle.cloak_model.specs.Exchange.{Piece}
use Rattle.run_command.specs.declared.unheard.Unheard.{Unheard}

-- whatever it is given, nothing is written
abbrev pub GaveNothing : Unheard → Unheard → List Piece → Type 0
GaveNothing first now pieces = Unit {0}
