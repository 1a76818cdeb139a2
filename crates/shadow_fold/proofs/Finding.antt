-- What is found in a list, and whether something is.
use Rattle.std.proofs.Common.{◌≡◌, ◌||◌, if◌then◌else◌, Bool, true, false, List, [], ◌∷◌, Option, Some, refl, find, is_some}
use Rattle.std.specs.List.{list_any}

-- one fact by the value of a test
one : {A : Type 0} (b : Bool) (x : A) (r : Option A) (t : Bool) → is_some r ≡ t → is_some (if b then Some x else r) ≡ (b || t)
one true x r t e = refl
one false x r t e = e

-- something is found exactly if one passes
pub is_some-find : {A : Type 0} (p : A → Bool) (xs : List A) → is_some (find p xs) ≡ list_any p xs
is_some-find p [] = refl
is_some-find p (x ∷ xs) = one (p x) x (find p xs) (list_any p xs) (is_some-find p xs)
