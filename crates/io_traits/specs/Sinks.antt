-- What a call did to a sink, by what the sink tells.
use Rattle.std.specs.Prelude.{ℕ, List, Result}
use Rattle.cloak_base.specs.declared.causes.Failed.{Failed}
use Rattle.io_traits.specs.declared.sink.Sink.{Ghosts}
use Rattle.io_traits.specs.Told.{Puts}

-- it put a text: all of it, or a front of it and a fault
abbrev pub PutsTo : {O : Type 0} → Ghosts O → O → O → List ℕ → Result Unit Failed → Type 0
PutsTo sink old new text result = Puts (sink.taken old) (sink.taken new) (sink.faults old) (sink.faults new) text result
