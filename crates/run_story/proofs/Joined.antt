-- Texts of several parts.
use Rattle.std.proofs.Common.{◌≡◌, ◌∙◌, ◌++◌, List, [], ◌∷◌, ℕ, refl, sym, append_assoc}

-- a first part and more, put together from the left, and from the right
abbrev pub from_left : List ℕ → List (List ℕ) → List ℕ
from_left first [] = first
from_left first (part ∷ parts) = from_left (first ++ part) parts

abbrev pub from_right : List ℕ → List (List ℕ) → List ℕ
from_right first [] = first
from_right first (part ∷ parts) = first ++ from_right part parts

two_first : (a b : List ℕ) (parts : List (List ℕ)) → from_right (a ++ b) parts ≡ a ++ from_right b parts
two_first a b [] = refl
two_first a b (part ∷ parts) = append_assoc a b (from_right part parts)

pub joined : (first : List ℕ) (parts : List (List ℕ)) → from_right first parts ≡ from_left first parts
joined first [] = refl
joined first (part ∷ parts) = sym (two_first first part parts) ∙ joined (first ++ part) parts
