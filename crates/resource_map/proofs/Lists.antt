-- Lists that lemmas on resources speak of.
use Rattle.std.proofs.Common.{◌≡◌, ℕ, zero, suc, ◌+◌, ◌*◌, ◌<◌, ◌≤◌, Bool, true, false, cond, List, [], ◌∷◌, length, get_or, set, map, replicate, Option, None, Some, refl, sym, subst, ◌∙◌, inl, inr, arith}
use Rattle.std.specs.Prelude.{All, position, sum_by, count_by, find, slice_get, IfSome, IsSome, IsNone, is_none}
use Rattle.std.specs.List.{position_or_len}
use Rattle.std.proofs.lemmas.Bool.{cases_lt, lt-ltb, true≢false, false≢true}
use Rattle.std.proofs.lemmas.List.Folds.{find_at, fold-map}
use Rattle.std.proofs.lemmas.List.Elements.{All-head, All-tail}
use Rattle.std.proofs.lemmas.Option.{get_or_from_slice_get, slice_get_within}
use Rattle.std.proofs.lemmas.List.Quantifiers.{position-Some}
use Rattle.cloak_model.specs.Resources.{first_free}
use Rattle.std.proofs.lemmas.List.Sums.{fails_before_first, sum_by-le, sum_by-le-sum_by}

-- a free place is free everywhere
pub get_or-replicate_none : {A : Type 0} (n k : ℕ) → get_or {A = Option A} (replicate n None) k None ≡ None
get_or-replicate_none zero k = refl
get_or-replicate_none (suc n) zero = refl
get_or-replicate_none (suc n) (suc k) = get_or-replicate_none n k

-- a map that keeps the default, at each place and past the end
pub get_or-map_all : {A B : Type 0} (f : A → B) (d : A) (e : B) (xs : List A) (k : ℕ) → f d ≡ e → get_or (map f xs) k e ≡ f (get_or xs k d)
get_or-map_all f d e [] k same = sym same
get_or-map_all f d e (x ∷ xs) zero same = refl
get_or-map_all f d e (x ∷ xs) (suc k) same = get_or-map_all f d e xs k same

-- a place that was made free, also past the end
pub get_or-set_none : {A : Type 0} (xs : List (Option A)) (i : ℕ) → get_or (set xs i None) i None ≡ None
get_or-set_none [] i = refl
get_or-set_none (x ∷ xs) zero = refl
get_or-set_none (x ∷ xs) (suc i) = get_or-set_none xs i

pub none_from_test : {A : Type 0} (o : Option A) → is_none o ≡ true → o ≡ None
none_from_test None free = refl
none_from_test (Some x) free = absurd (false≢true free)

-- the lowest free place is free
pub first_free-at : {A : Type 0} (xs : List (Option A)) (n : ℕ) → first_free xs ≡ Some n → (n < length xs) × (get_or xs n None ≡ None)
first_free-at xs n is =
    let at = position-Some is_none xs n None is in
    (at.0, none_from_test (get_or xs n None) at.1)

-- what holds of each element holds of one that is read or found
pub All-slice_get : {X : Type 0} (P : X → Type 0) (xs : List X) (i : ℕ) (x : X) → All P xs → slice_get xs i ≡ Some x → P x
All-slice_get P xs i x all at = subst P (get_or_from_slice_get xs i x x at) (all i x (slice_get_within xs i x at))

pub All-find : {X : Type 0} (P : X → Type 0) (p : X → Bool) (xs : List X) (x : X) → All P xs → find p xs ≡ Some x → P x
All-find P p xs x all is = All-slice_get P xs (position_or_len p xs) x all (sym (find_at p xs) ∙ is)

pub IfSome-slice_get : {X : Type 0} (P : X → Type 0) (xs : List X) (i : ℕ) → All P xs → IfSome (slice_get xs i) P
IfSome-slice_get P [] i all = tt
IfSome-slice_get P (x ∷ xs) zero all = All-head P x xs all
IfSome-slice_get P (x ∷ xs) (suc i) all = IfSome-slice_get P xs i (All-tail P x xs all)

-- a place in use is inside
pub inside_from_some : {A : Type 0} (xs : List (Option A)) (i : ℕ) → IsSome (get_or xs i None) → i < length xs
inside_from_some [] i some = absurd (false≢true some)
inside_from_some (x ∷ xs) zero some = omega arith
inside_from_some (x ∷ xs) (suc i) some = let later = inside_from_some xs i some in omega arith

-- none passes if there is no first that does
no_position : {X : Type 0} (p : X → Bool) (xs : List X) → IsNone (position p xs) → length xs ≤ position_or_len p xs
no_position p xs none =
    elim (cases_lt (position_or_len p xs) (length xs)) [
      | inl lt ↦ absurd (true≢false (subst (λ (t : Bool). IsNone (cond t (Some (position_or_len p xs)) None)) (lt-ltb _ _ lt) none))
      | inr ge ↦ ge
    ]

fails_before : {X : Type 0} (p : X → Bool) (xs : List X) → IsNone (position p xs) → (k : ℕ) (d : X) → k < length xs → cond (p (get_or xs k d)) 1 0 ≤ 0
fails_before p xs none k d lt =
    let fails : p (get_or xs k d) ≡ false = fails_before_first p xs k d (omega (arith, no_position p xs none)) in
    subst (λ (t : Bool). cond t 1 0 ≤ 0) (sym fails) (omega arith)

pub count_by-no_position : {X : Type 0} (p : X → Bool) (xs : List X) → IsNone (position p xs) → count_by p xs ≡ 0
count_by-no_position p xs none =
    let most : count_by p xs ≤ length xs * 0 = sum_by-le (λ x. cond (p x) 1 0) 0 xs (fails_before p xs none) in
    omega arith

-- a sum over changed elements, none of which has grown
pub sum_by-map-le : {X : Type 0} (f : X → ℕ) (h : X → X) (xs : List X) → ((x : X) → f (h x) ≤ f x) → sum_by f (map h xs) ≤ sum_by f xs
sum_by-map-le f h xs less =
    let same : sum_by f (map h xs) ≡ sum_by (λ x. f (h x)) xs = fold-map (λ a x. a + f x) h 0 xs in
    let le : sum_by (λ x. f (h x)) xs ≤ sum_by f xs = sum_by-le-sum_by (λ x. f (h x)) f xs less in
    omega arith
