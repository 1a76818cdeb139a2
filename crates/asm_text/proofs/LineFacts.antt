-- The lines of a text by their numbers.
use Rattle.std.proofs.Common.{◌≡◌, ◌<◌, ℕ, suc, List, [], ◌∷◌, length, get_or, refl, arith}
use Rattle.rv_asm.specs.Assembly.{lines_of}
use Rattle.rv_asm.proofs.Lines.{first, others, next_line}

pub line_behind : (text : List ℕ) (k : ℕ) → get_or (lines_of text) (suc k) [] ≡ get_or (lines_of (others text)) k []
line_behind [] k = refl
line_behind (b ∷ bs) k = let some : 0 < length (b ∷ bs) = omega arith in rw (next_line (b ∷ bs) some) refl

pub line_here : (text : List ℕ) → get_or (lines_of text) 0 [] ≡ first text
line_here [] = refl
line_here (b ∷ bs) = let some : 0 < length (b ∷ bs) = omega arith in rw (next_line (b ∷ bs) some) refl
