use Rattle.std.proofs.Common.{◌≡◌, ◌++◌, take}
use Rattle.svg_text.specs.Characters.{escaped}
use Rattle.svg_text.proofs.characters.put_signs.Given as goal

abbrev pub invariant-loop-c : goal.invariant-loop-c
invariant-loop-c l = l.text.items ≡ l.fn.text.items ++ escaped (take l.c-index l.signs)
