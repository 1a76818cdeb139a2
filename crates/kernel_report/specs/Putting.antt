-- Texts that are put to a sink one after another, up to the first that fails.
use Rattle.std.specs.Prelude.{ℕ, List, ◌++◌, Option, Result}
use Rattle.cloak_base.specs.declared.causes.Failed.{Failed}
use Rattle.io_traits.specs.declared.sink.Sink.{Ghosts}
use Rattle.io_traits.specs.Told.{Puts}

-- A sink after the texts that were put to it: the bytes that it tells, its count of faults, and whether a text failed.
pub record Putting : Type 0 where
  pub taken : Option (List ℕ)
  pub faults : ℕ
  pub so_far : Result Unit Failed

abbrev pub putting : {O : Type 0} → Ghosts O → O → Result Unit Failed → Putting
putting sink out so_far = record { taken = sink.taken out; faults = sink.faults out; so_far = so_far }

-- After whatever was put so far, this text was put too, unless something failed before.
pub record PutsMore (old new : Putting) (text : List ℕ) : Type 0 where
  pub more : (told : Option (List ℕ)) (count : ℕ) (texts : List ℕ) →
      Puts told old.taken count old.faults texts old.so_far →
      Puts told new.taken count new.faults (texts ++ text) new.so_far
