-- Lists that are joined.
use Rattle.std.proofs.Common.{◌≡◌, ℕ, ◌+◌, ◌<◌, List, [], ◌∷◌, ◌++◌, length, take, get_or, ◌∙◌, ap, sym, append_assoc}
use Rattle.std.proofs.lemmas.List.{append-nil, take_more}
use Rattle.std.specs.List.{concat}

-- one more list after them
pub concat-last : (xss : List (List ℕ)) (xs : List ℕ) → concat (xss ++ xs ∷ []) ≡ concat xss ++ xs
concat-last [] xs = append-nil xs
concat-last (ys ∷ xss) xs = ap (λ (l : List ℕ). ys ++ l) (concat-last xss xs) ∙ sym (append_assoc ys (concat xss) xs)

pub concat-take_more : (xss : List (List ℕ)) (i : ℕ) (d : List ℕ) → i < length xss →
    concat (take (i + 1) xss) ≡ concat (take i xss) ++ get_or xss i d
concat-take_more xss i d low = ap concat (take_more xss i d low) ∙ concat-last (take i xss) (get_or xss i d)
