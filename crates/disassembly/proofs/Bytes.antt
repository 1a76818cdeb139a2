-- Texts cut at a byte that their first part does not have.
use Rattle.std.proofs.Common.{◌≡◌, ℕ, suc, ◌+◌, ◌<◌, Bool, true, false, true≢false, cond, not, eqb, nat_lt, List, [], ◌∷◌, ◌++◌, length, take, drop, Option, Some, None, refl, sym, ap, ◌∙◌, arith, lt-ltb, le-ltb, length-append, codes}
use Rattle.std.specs.List.{list_all, prefix_len, position_or_len, before_first, after_first}
use Rattle.std.proofs.Math.Seq.{take-append_seam, drop-append-add, take-length}
use Rattle.std.proofs.lemmas.List.{drop_all}
use Rattle.std.proofs.lemmas.Bool.{ne_eqb, eqb-false, and_parts}
use Rattle.rv_asm.specs.Words.{cut, is_blank, from_word, leading_word, sole_word}

pub all_of : (p q : ℕ → Bool) → ((b : ℕ) → p b ≡ true → q b ≡ true) → (text : List ℕ) → list_all p text ≡ true → list_all q text ≡ true
all_of p q weaker [] h = refl
all_of p q weaker (b ∷ bs) h = let parts = and_parts (p b) (list_all p bs) h in rw (weaker b parts.0, all_of p q weaker bs parts.1) refl

not_false : (b : Bool) → not b ≡ true → b ≡ false
not_false true h = absurd (true≢false (sym h))
not_false false h = refl

-- a length that is not 0
pub not_zero : (n : ℕ) → 0 < n → eqb n 0 ≡ false
not_zero n some = ne_eqb n 0 (λ e. omega (arith, some, e))

same : (c : ℕ) → not (eqb c c) ≡ false
same c = go (eqb c c) refl
  where
    go : (b : Bool) → eqb c c ≡ b → not b ≡ false
    go true is = refl
    go false is = absurd (eqb-false c c is refl)

-- ---- how many bytes pass

stops : (q : ℕ → Bool) (a : List ℕ) (c : ℕ) (b : List ℕ) → list_all q a ≡ true → q c ≡ false → prefix_len q (a ++ c ∷ b) ≡ length a
stops q [] c b h g = rw g refl
stops q (x ∷ a) c b h g = let parts = and_parts (q x) (list_all q a) h in rw (parts.0, stops q a c b parts.1 g) (omega arith)

passes : (q : ℕ → Bool) (a : List ℕ) → list_all q a ≡ true → prefix_len q a ≡ length a
passes q [] h = refl
passes q (x ∷ a) h = let parts = and_parts (q x) (list_all q a) h in rw (parts.0, passes q a parts.1) (omega arith)

-- ---- a text without a byte

abbrev pub lacks : ℕ → List ℕ → Bool
lacks c text = list_all (λ b. not (eqb b c)) text

-- what stands before and after it
pub cut_at : (c : ℕ) (a b : List ℕ) → lacks c a ≡ true → cut c (a ++ c ∷ b) ≡ Some (a, b)
unfolding cut
cut_at c a b h =
    let at : position_or_len (λ x. eqb x c) (a ++ c ∷ b) ≡ length a = stops (λ x. not (eqb x c)) a c b h (same c) in
    let inside : nat_lt (length a) (length (a ++ c ∷ b)) ≡ true = lt-ltb _ _ (omega (arith, length-append a (c ∷ b))) in
    rw (at, inside, take-append_seam a (c ∷ b), drop-append-add a (c ∷ b) 1) refl

pub before_none : (c : ℕ) (a : List ℕ) → lacks c a ≡ true → before_first (λ b. eqb b c) a ≡ a
before_none c a h =
    let at : position_or_len (λ x. eqb x c) a ≡ length a = passes (λ x. not (eqb x c)) a h in
    rw (at, take-length a) refl

-- ---- words

abbrev pub is_solid : List ℕ → Bool
is_solid text = list_all (λ b. not (is_blank b)) text

pub skips : (text : List ℕ) → from_word (32 ∷ text) ≡ from_word text
unfolding from_word
skips text =
    let e : 1 + prefix_len is_blank text ≡ suc (prefix_len is_blank text) = omega arith in
    rw e refl

starts : (text rest : List ℕ) → 0 < length text → is_solid text ≡ true → from_word (text ++ rest) ≡ text ++ rest
unfolding from_word
starts [] rest some solid = absurd (omega arith)
starts (b ∷ bs) rest some solid =
    let parts = and_parts (not (is_blank b)) (is_solid bs) solid in
    rw (not_false (is_blank b) parts.0) refl

-- the first word, and what stands after the blank that ends it
pub leading : (name rest : List ℕ) → 0 < length name → is_solid name ≡ true → leading_word (name ++ 32 ∷ rest) ≡ (name, rest)
unfolding leading_word
leading name rest some solid =
    let at : position_or_len is_blank (name ++ 32 ∷ rest) ≡ length name = stops (λ b. not (is_blank b)) name 32 rest solid refl in
    rw (starts name (32 ∷ rest) some solid, at, take-append_seam name (32 ∷ rest), drop-append-add name (32 ∷ rest) 1) refl

pub leading_skips : (text : List ℕ) → leading_word (32 ∷ text) ≡ leading_word text
unfolding leading_word
leading_skips text = rw (skips text) refl

pub alone : (name : List ℕ) → 0 < length name → is_solid name ≡ true → leading_word name ≡ (name, [])
unfolding leading_word from_word
alone [] some solid = absurd (omega arith)
alone (b ∷ bs) some solid =
    let parts = and_parts (not (is_blank b)) (is_solid bs) solid in
    let at : position_or_len is_blank (b ∷ bs) ≡ length (b ∷ bs) = passes (λ b. not (is_blank b)) (b ∷ bs) solid in
    let past : drop (length (b ∷ bs) + 1) (b ∷ bs) ≡ [] = drop_all (length (b ∷ bs) + 1) (b ∷ bs) (omega arith) in
    rw (not_false (is_blank b) parts.0, at, take-length (b ∷ bs), past) refl

pub sole : (word : List ℕ) → 0 < length word → is_solid word ≡ true → sole_word word ≡ Some word
unfolding sole_word
sole word some solid = rw (alone word some solid) refl

pub sole_after : (word : List ℕ) → 0 < length word → is_solid word ≡ true → sole_word (32 ∷ word) ≡ Some word
unfolding sole_word
sole_after word some solid = rw (leading_skips word, alone word some solid) refl
