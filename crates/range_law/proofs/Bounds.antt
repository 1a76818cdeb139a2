-- Lists all of whose elements are words, or bytes.
use Rattle.std.proofs.Common.{◌≡◌, ℕ, zero, suc, ◌+◌, ◌-◌, ◌*◌, ◌%◌, ◌^◌, ◌<◌, Bool, List, [], ◌∷◌, map, take, drop, replicate, slice_get, slice_set, slice_index_or, Some, subst, arith}
use Rattle.std.specs.Prelude.{All}
use Rattle.std.specs.Int.{w32, from_le_bytes, to_le_bytes}
use Rattle.std.specs.List.{AllByRecursion}
use Rattle.cloak_base.specs.Pages.{zero_page}
use Rattle.cloak_model.specs.Memory.{value_in, with_value_in}
use Rattle.cloak_model.specs.KernelStep.{extended}
use Rattle.cloak_model.specs.Record.{IsWord}
use Rattle.range_law.specs.Writing.{AreBytes}
use Rattle.cloak_base.proofs.Choices.{either}
use Rattle.cloak_base.proofs.Lists.{each_append}

abbrev pub AreWords : List ℕ → Type 0
AreWords words = AllByRecursion IsWord words

pub all_take : {A : Type 0} (P : A → Type 0) (n : ℕ) (xs : List A) → AllByRecursion P xs → AllByRecursion P (take n xs)
all_take P zero [] all = tt
all_take P zero (x ∷ xs) all = tt
all_take P (suc n) [] all = tt
all_take P (suc n) (x ∷ xs) all = (all.0, all_take P n xs all.1)

pub all_drop : {A : Type 0} (P : A → Type 0) (n : ℕ) (xs : List A) → AllByRecursion P xs → AllByRecursion P (drop n xs)
all_drop P zero [] all = tt
all_drop P zero (x ∷ xs) all = all
all_drop P (suc n) [] all = tt
all_drop P (suc n) (x ∷ xs) all = all_drop P n xs all.1

pub all_set : {A : Type 0} (P : A → Type 0) (xs : List A) (i : ℕ) (a : A) → AllByRecursion P xs → P a →
    AllByRecursion P (slice_set xs i a)
all_set P [] i a all here = tt
all_set P (x ∷ xs) zero a all here = (here, all.1)
all_set P (x ∷ xs) (suc i) a all here = (all.0, all_set P xs i a all.1 here)

pub all_replicate : {A : Type 0} (P : A → Type 0) (n : ℕ) (a : A) → P a → AllByRecursion P (replicate n a)
all_replicate P zero a here = tt
all_replicate P (suc n) a here = (here, all_replicate P n a here)

pub all_or : {A : Type 0} (P : A → Type 0) (xs : List A) (i : ℕ) (d : A) → AllByRecursion P xs → P d →
    P (slice_index_or xs i d)
all_or P [] i d all none = none
all_or P (x ∷ xs) zero d all none = all.0
all_or P (x ∷ xs) (suc i) d all none = all_or P xs i d all.1 none

pub all_get : {A : Type 0} (P : A → Type 0) (xs : List A) (i : ℕ) (a : A) → AllByRecursion P xs →
    slice_get xs i ≡ Some a → P a
all_get P [] i a all there = absurd cc
all_get P (x ∷ xs) zero a all there = let same : x ≡ a = cc in subst P same all.0
all_get P (x ∷ xs) (suc i) a all there = all_get P xs i a all.1 there

pub all_map : {A B : Type 0} (P : A → Type 0) (Q : B → Type 0) (f : A → B) (xs : List A) →
    ((a : A) → P a → Q (f a)) → AllByRecursion P xs → AllByRecursion Q (map f xs)
all_map P Q f [] gives all = tt
all_map P Q f (x ∷ xs) gives all = (gives x all.0, all_map P Q f xs gives all.1)

pub by_recursion : {A : Type 0} (P : A → Type 0) (xs : List A) → All P xs → AllByRecursion P xs
by_recursion P [] all = tt
by_recursion P (x ∷ xs) all = (
  all 0 x (omega arith),
  by_recursion P xs (λ k d low. all (suc k) d (omega (arith, low))),
)

-- Words.

pub rest_below : (n : ℕ) → n % 2 ^ 32 < 2 ^ 32
rest_below n = omega arith

pub word_at : (words : List ℕ) (i : ℕ) → AreWords words → IsWord (slice_index_or words i 0)
word_at words i all = all_or IsWord words i 0 all (omega arith)

-- Bytes.

pub byte_at : (bytes : List ℕ) (i : ℕ) → AreBytes bytes → slice_index_or bytes i 0 < 256
byte_at bytes i all = all_or (λ b. b < 256) bytes i 0 all (omega arith)

pub zero_bytes : AreBytes zero_page
unfolding zero_page
zero_bytes = all_replicate (λ b. b < 256) 4096 0 (omega arith)

pub cells : (n : ℕ) → AreBytes (to_le_bytes w32 n)
cells n = (omega arith, (omega arith, (omega arith, (omega arith, tt))))

four_below : (a b c d : ℕ) → a < 256 → b < 256 → c < 256 → d < 256 →
    a + b * 256 + c * 65536 + d * 16777216 < 2 ^ 32
four_below a b c d p q r s = omega arith

value_below : (bytes : List ℕ) → AreBytes bytes → from_le_bytes w32 bytes < 2 ^ 32
value_below bytes all =
    four_below _ _ _ _ (byte_at bytes 0 all) (byte_at bytes 1 all) (byte_at bytes 2 all) (byte_at bytes 3 all)

pub value_in_below : (page : List ℕ) (at width : ℕ) → AreBytes page → IsWord (value_in page at width)
value_in_below page at width all =
    let P : ℕ → Type 0 = λ b. b < 256 in
    value_below _ (each_append P _ _ (all_take P width _ (all_drop P at page all)) (all_replicate P (4 - width) 0 (omega arith)))

pub bytes_with_value : (page : List ℕ) (at width value : ℕ) → AreBytes page →
    AreBytes (with_value_in page at width value)
bytes_with_value page at width value all =
    let P : ℕ → Type 0 = λ b. b < 256 in
    each_append P _ _ (all_take P at page all)
    (each_append P _ _ (all_take P width _ (cells value)) (all_drop P (at + width) page all))

pub extended_below : (is_signed : Bool) (width value : ℕ) → IsWord value → IsWord (extended is_signed width value)
extended_below is_signed width value below = either IsWord _ _ _ (rest_below _) below

pub by_place : {A : Type 0} (P : A → Type 0) (xs : List A) → AllByRecursion P xs → All P xs
by_place P [] all k d low = absurd (omega (arith, low))
by_place P (x ∷ xs) all zero d low = all.0
by_place P (x ∷ xs) all (suc k) d low = by_place P xs all.1 k d (omega (arith, low))
