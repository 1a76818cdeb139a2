-- The line that tells a generated image.
use Rattle.std.specs.Prelude.{ℕ, List, ◌++◌, length, codes, decimal, Result}
use Rattle.cloak_base.specs.declared.causes.Failed.{Failed}
use Rattle.io_traits.specs.declared.sink.Sink.{Ghosts}
use Rattle.io_traits.specs.Sinks.{PutsTo}
use Rattle.cloak_model.specs.Bundle.{bundle_bytes}
use Rattle.cloak_model.specs.declared.image.Bundle.{Bundle}
use Rattle.guest_kernel.specs.Generated.{generated}

-- a number after its name
unfoldable pub named : List ℕ → ℕ → List ℕ
named name n = name ++ decimal n

-- an image's number, its harts, programs and frames, and the length of its file of version 2
unfoldable pub image_line : ℕ → Bundle → List ℕ
image_line n b =
    named (codes "gen ") n ++ named (codes " harts ") b.kernel.harts ++ named (codes " programs ") (length b.programs)
    ++ named (codes " frames ") b.kernel.frames ++ named (codes " bytes ") (length (bundle_bytes 2 b)) ++ codes "\n"

abbrev pub summary_line : ℕ → List ℕ
summary_line n = image_line n (generated n)

-- a call put this text to a sink, or a front of it and a fault
pub record PutsText {O : Type 0} (sink : Ghosts O) (old new : O) (text : List ℕ) (r : Result Unit Failed) : Type 0 where
  pub puts : PutsTo sink old new text r
