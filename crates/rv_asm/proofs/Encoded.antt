-- Words one after the other.
use Rattle.std.proofs.Common.{ℕ, List, [], ◌∷◌, ◌++◌}
use Rattle.rv_asm.specs.declared.image_word.ImageWord.{ImageWord}
use Rattle.rv_asm.specs.Assembly.{SpellsItem, AreSpelled}

pub one_more : (items : List ImageWord) (words : List ℕ) (i : ImageWord) (w : ℕ) → AreSpelled items words → SpellsItem i w → AreSpelled (items ++ i ∷ []) (words ++ w ∷ [])
one_more [] [] i w h g = (g, tt)
one_more [] (x ∷ words) i w h g = absurd h
one_more (j ∷ items) [] i w h g = absurd h
one_more (j ∷ items) (x ∷ words) i w h g = (h.0, one_more items words i w h.1 g)
