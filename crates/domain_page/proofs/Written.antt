-- Bytes that are written one piece after another.
use Rattle.std.proofs.Common.{◌≡◌, ◌∙◌, ℕ, ◌+◌, ◌<◌, ◌≤◌, List, [], ◌∷◌, ◌++◌, length, take, drop, get_or, ap, sym, subst, append_assoc, length-append, arith}
use Rattle.std.specs.Prelude.{All, Option, None, slice_index_or}
use Rattle.std.specs.List.{flat_map}
use Rattle.std.proofs.lemmas.List.{append-nil, take_more, take_all, get_or_default}
use Rattle.std.proofs.lemmas.List.Concat.{flat_map-append}
use Rattle.domain_page.specs.Writing.{Appends}

-- one piece after another
pub then : {a b c : List ℕ} {i j k : ℕ} {x y : List ℕ} → Appends a b i j x → Appends b c j k y → Appends a c i k (x ++ y)
then {a} {b} {c} {i} {j} {k} {x} {y} first second = record {
  end_is = omega (arith, first.end_is, second.end_is, length-append x y);
  bytes_are = second.bytes_are ∙ ap (λ (l : List ℕ). l ++ y) first.bytes_are ∙ append_assoc (take i a) x y;
}

-- nothing
pub nothing : (a : List ℕ) (i : ℕ) → Appends a a i i []
nothing a i = record { end_is = omega arith; bytes_are = sym (append-nil (take i a)) }

-- the same bytes under another name
pub renamed : {a b : List ℕ} {i j : ℕ} {x y : List ℕ} → Appends a b i j x → x ≡ y → Appends a b i j y
renamed {a} {b} {i} {j} {x} {y} w same = subst (λ (bytes : List ℕ). Appends a b i j bytes) same w

flat_map-take_more : {X : Type 0} (f : X → List ℕ) (xs : List X) (i : ℕ) (d : X) → i < length xs →
    flat_map f (take i xs) ++ f (get_or xs i d) ≡ flat_map f (take (i + 1) xs)
flat_map-take_more f xs i d low =
    ap (λ (l : List ℕ). flat_map f (take i xs) ++ l) (sym (append-nil (f (get_or xs i d))))
    ∙ sym (ap (flat_map f) (take_more xs i d low) ∙ flat_map-append f (take i xs) (get_or xs i d ∷ []))

-- one more of a row
pub one_more : {X : Type 0} (f : X → List ℕ) (xs : List X) (n : ℕ) (d : X) {a b c : List ℕ} {i j k : ℕ} → n < length xs →
    Appends a b i j (flat_map f (take n xs)) → Appends b c j k (f (get_or xs n d)) →
    Appends a c i k (flat_map f (take (n + 1) xs))
one_more f xs n d inside before now = renamed (then before now) (flat_map-take_more f xs n d inside)

-- the whole row
pub all_of : {X : Type 0} (f : X → List ℕ) (xs : List X) (n : ℕ) {a b : List ℕ} {i j : ℕ} → length xs ≤ n →
    Appends a b i j (flat_map f (take n xs)) → Appends a b i j (flat_map f xs)
all_of f xs n last w = renamed w (ap (flat_map f) (take_all n xs last))

-- what holds at each place holds of each element
pub all_from_each : {X : Type 0} (P : Option X → Type 0) (xs : List (Option X)) →
    ((k : ℕ) → P (slice_index_or xs k None)) → All P xs
all_from_each P xs each k d inside = subst P (get_or_default xs k None d inside) (each k)

-- all but the first element
pub take-rest : {A : Type 0} (xs : List A) (n : ℕ) → length xs ≡ n + 1 → take n (drop 1 xs) ≡ drop 1 xs
take-rest [] n is = absurd (omega (arith, is))
take-rest (x ∷ xs) n is = take_all n xs (omega (arith, is))
