-- Lists of which one place was written, and what holds of each element of a list.
use Rattle.std.proofs.Common.{◌≡◌, ◌≢◌, ◌∙◌, ◌-◌, ◌*◌, ℕ, zero, suc, ◌<◌, ◌≤◌, Bool, true, false, cond, nat_lt, inl, inr, List, [], ◌∷◌, ◌++◌, length, get_or, ◌+◌, Option, Some, None, refl, sym, ap, subst, arith, take, drop}
use Rattle.std.specs.Prelude.{IfSome, slice_get, slice_index_or, slice_set}
use Rattle.std.specs.List.{AllByRecursion, position, position_or_len}
use Rattle.std.proofs.lemmas.Bool.{cases_lt, cond_both, false≢true, lt-ltb, ltb-true}
use Rattle.std.proofs.lemmas.List.Sums.{fails_before_first}
use Rattle.std.proofs.lemmas.List.{get_or-set_same, get_or_past, get_or-drop, get_or-take, length-set, length-take}

-- One place was written.

pub slice_get-set_same : {A : Type 0} (xs : List A) (i : ℕ) (x : A) → i < length xs →
    slice_get (slice_set xs i x) i ≡ Some x
slice_get-set_same [] i x low = absurd (omega (arith, low))
slice_get-set_same (y ∷ xs) zero x low = refl
slice_get-set_same (y ∷ xs) (suc i) x low = slice_get-set_same xs i x (omega (arith, low))

pub slice_get-set_other : {A : Type 0} (xs : List A) (i j : ℕ) (x : A) → j ≢ i →
    slice_get (slice_set xs i x) j ≡ slice_get xs j
slice_get-set_other [] i j x other = refl
slice_get-set_other (y ∷ xs) zero zero x other = absurd (other refl)
slice_get-set_other (y ∷ xs) zero (suc j) x other = refl
slice_get-set_other (y ∷ xs) (suc i) zero x other = refl
slice_get-set_other (y ∷ xs) (suc i) (suc j) x other = slice_get-set_other xs i j x (λ e. other (ap suc e))

-- what is there, written back, changes nothing
pub set_itself : {A : Type 0} (xs : List A) (i : ℕ) (x : A) → slice_get xs i ≡ Some x → slice_set xs i x ≡ xs
set_itself [] i x is = absurd cc
set_itself (y ∷ xs) zero x is = let same : y ≡ x = cc in ap (λ (z : _). z ∷ xs) (sym same)
set_itself (y ∷ xs) (suc i) x is = ap (λ (l : List _). y ∷ l) (set_itself xs i x is)

-- a place that was emptied has nothing
pub emptied : {A : Type 0} (xs : List (Option A)) (i : ℕ) → slice_index_or (slice_set xs i None) i None ≡ None
emptied xs i = elim (cases_lt i (length xs)) [
  | inl h ↦ get_or-set_same xs i None None h
  | inr h ↦ get_or_past (slice_set xs i None) i None (subst (λ (n : ℕ). n ≤ i) (sym (length-set xs i None)) h)
]

-- a place that is free after one was filled was free
pub free_before : {A : Type 0} (xs : List (Option A)) (i n : ℕ) (x : A) →
    slice_index_or (slice_set xs i (Some x)) n None ≡ None → slice_index_or xs n None ≡ None
free_before [] i n x free = refl
free_before (y ∷ xs) zero zero x free = cc
free_before (y ∷ xs) zero (suc n) x free = free
free_before (y ∷ xs) (suc i) zero x free = free
free_before (y ∷ xs) (suc i) (suc n) x free = free_before xs i n x free

-- The place of the first element that passes.

pub place_below : {A : Type 0} (test : A → Bool) (xs : List A) → IfSome (position test xs) (λ n. n < length xs)
place_below test xs =
    cond_both (nat_lt (position_or_len test xs) (length xs)) (Some (position_or_len test xs)) None
    (λ o. IfSome o (λ n. n < length xs)) (λ low. ltb-true _ _ low) (λ past. tt)

pub none_by : (test : Bool) (n : ℕ) → ◌≡◌ {A = Option ℕ} (cond test (Some n) None) None → test ≡ false
none_by true n none = absurd cc
none_by false n none = refl

-- if none passes, none does at any place
pub fails_all : {A : Type 0} (test : A → Bool) (xs : List A) (i : ℕ) (d : A) → position test xs ≡ None → i < length xs →
    test (get_or xs i d) ≡ false
fails_all test xs i d none low = elim (cases_lt (position_or_len test xs) (length xs)) [
  | inl inside ↦
      absurd (false≢true (sym (none_by (nat_lt (position_or_len test xs) (length xs)) _ none)
      ∙ lt-ltb (position_or_len test xs) (length xs) inside))
  | inr past ↦ fails_before_first test xs i d (omega (arith, past, low))
]

-- What holds of each element.

pub each_weaker : {A : Type 0} (P Q : A → Type 0) (xs : List A) → ((a : A) → P a → Q a) → AllByRecursion P xs →
    AllByRecursion Q xs
each_weaker P Q [] gives all = tt
each_weaker P Q (x ∷ xs) gives all = (gives x all.0, each_weaker P Q xs gives all.1)

pub each_append : {A : Type 0} (P : A → Type 0) (xs ys : List A) → AllByRecursion P xs → AllByRecursion P ys →
    AllByRecursion P (xs ++ ys)
each_append P [] ys here there = there
each_append P (x ∷ xs) ys here there = (here.0, each_append P xs ys here.1 there)

-- Bytes.

abbrev pub IsBytes : List ℕ → Type 0
IsBytes bytes = (i : ℕ) → get_or bytes i 0 < 256

pub IsBytes-drop : (n : ℕ) (bytes : List ℕ) → IsBytes bytes → IsBytes (drop n bytes)
IsBytes-drop n bytes h i = rw get_or-drop (h (n + i))

pub IsBytes-take : (n : ℕ) (bytes : List ℕ) → IsBytes bytes → IsBytes (take n bytes)
IsBytes-take n bytes h i = elim (cases_lt i n) [
  | inl lt ↦ rw (get_or-take n bytes i 0 lt) (h i)
  | inr le ↦ rw (get_or_past (take n bytes) i 0 (omega (arith, length-take n bytes))) (omega arith)
]

-- the bytes of a page, by the range that they are taken from
pub whole_page : (bytes all : List ℕ) (page : ℕ) →
    bytes ≡ take (page * 4096 + 4096 - page * 4096) (drop (page * 4096) all) → bytes ≡ take 4096 (drop (4096 * page) all)
whole_page bytes all page is =
    let long : page * 4096 + 4096 - page * 4096 ≡ 4096 = omega arith in
    let place : page * 4096 ≡ 4096 * page = omega arith in
    is ∙ (ap (λ (n : ℕ). take n (drop (page * 4096) all)) long ∙ ap (λ (n : ℕ). take 4096 (drop n all)) place)
