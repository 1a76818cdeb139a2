-- Lists of what the numbers below a bound give.
use Rattle.std.proofs.Common.{◌≡◌, ◌<◌, ◌*◌, ℕ, zero, suc, List, [], ◌∷◌, length, ap, ◌∙◌, refl, sym, arith, length-append}
use Rattle.std.specs.Prelude.{map, All}
use Rattle.std.specs.List.{flat_map}
use Rattle.std.proofs.lemmas.List.{map-append}
use Rattle.std.proofs.lemmas.List.Elements.{All-nil, All-push, All-same}
use Rattle.std.proofs.lemmas.Grind.{flat_map-append}
use native.Mathlib.Nat.{zero-mul, suc-mul}
use Rattle.cloak_model.specs.Opening.{numbers_below}

-- what holds of each number's holds of all
pub All-below : {X : Type 0} (P : X → Type 0) (f : ℕ → X) (n : ℕ) → ((k : ℕ) → k < n → P (f k)) →
    All P (map f (numbers_below n))
All-below P f zero each = All-nil P
All-below P f (suc n) each =
    All-same P _ _ (map-append f (numbers_below n) (n ∷ []))
    (All-push P (map f (numbers_below n)) (f n) (All-below P f n (λ k low. each k (omega arith)))
    (each n (omega arith)))

-- pieces of one length
pub length-flat_map_below : {X : Type 0} (f : ℕ → X) (bytes : X → List ℕ) (size n : ℕ) →
    ((k : ℕ) → length (bytes (f k)) ≡ size) → length (flat_map bytes (map f (numbers_below n))) ≡ n * size
length-flat_map_below f bytes size zero each = sym (zero-mul size)
length-flat_map_below f bytes size (suc n) each =
    let none : length {A = ℕ} [] ≡ 0 = refl in
    let one = each n in
    let last : length (flat_map bytes (f n ∷ [])) ≡ size =
    length-append (bytes (f n)) [] ∙ omega (arith, one, none) in
    let rest = length-flat_map_below f bytes size n each in
    ap (λ (xs : List _). length (flat_map bytes xs)) (map-append f (numbers_below n) (n ∷ []))
    ∙ (ap (λ (xs : List ℕ). length xs) (flat_map-append bytes (map f (numbers_below n)) (f n ∷ []))
    ∙ (length-append (flat_map bytes (map f (numbers_below n))) (flat_map bytes (f n ∷ []))
    ∙ (let more = suc-mul n size in omega (arith, rest, last, more))))
