-- Words and their columns.
use Rattle.std.proofs.Common.{◌≡◌, ◌<◌, ◌+◌, ◌*◌, ◌/◌, ◌%◌, ◌^◌, ℕ, zero, suc, refl, ap, ◌∙◌, arith, sym, length, get_or, ◌++◌}
use Rattle.std.specs.Prelude.{bit_xor}
use lib.Bits.{xor_assoc, xor_self, xor_zero_r}
use Rattle.std.proofs.lemmas.Nat.{xor_comm, xor_shr, xor_mod, from_le_bytes-to_le_bytes_4, le_bytes_8}
use Rattle.aes_block.specs.Field.{product}
use Rattle.std.specs.Int.{from_le_bytes, to_le_bytes, w64}
use Rattle.aes_block.specs.Column.{Column, column_bytes, column_sum, sum_of_four, row_times, circulant_times}
use Rattle.aes_block.specs.Word.{column_of_word}
use Rattle.aes_block.proofs.MixInverse.{IsByteColumn, column_from}

-- the word of a column
unfoldable pub word_of : Column → ℕ
word_of x = x.first + x.second * 256 + x.third * 65536 + x.fourth * 16777216

pub column_of_word-word_of : (x : Column) → IsByteColumn x → column_of_word (word_of x) ≡ x
unfolding column_of_word word_of
column_of_word-word_of x b =
    let p = b.first in
    let q = b.second in
    let r = b.third in
    let s = b.fourth in
    column_from _ x (omega arith) (omega arith) (omega arith) (omega arith)

pub IsByteColumn-column_of_word : (w : ℕ) → IsByteColumn (column_of_word w)
unfolding column_of_word
IsByteColumn-column_of_word w = record { first = omega arith; second = omega arith; third = omega arith; fourth = omega arith }

xor_byte : (a b k : ℕ) → bit_xor a b / 2 ^ k % 2 ^ 8 ≡ bit_xor (a / 2 ^ k % 2 ^ 8) (b / 2 ^ k % 2 ^ 8)
xor_byte a b k = ap (λ (n : ℕ). n % 2 ^ 8) (xor_shr a b k) ∙ xor_mod (a / 2 ^ k) (b / 2 ^ k) 8

pub column_of_word-xor : (a b : ℕ) → column_of_word (bit_xor a b) ≡ column_sum (column_of_word a) (column_of_word b)
unfolding column_of_word column_sum
column_of_word-xor a b = column_from _ _ (xor_mod a b 8) (xor_byte a b 8) (xor_byte a b 16) (xor_byte a b 24)

-- four multiples of an element, from the top of a column
unfoldable pub multiples : ℕ → ℕ → ℕ → ℕ → ℕ → Column
multiples i j k l a = record { first = product i a; second = product j a; third = product k a; fourth = product l a }

-- a circulant times a column is the sum of the circulant's columns times the column's elements
pub circulant_times-multiples : (i j k l : ℕ) (x : Column) →
    column_sum (column_sum (multiples i l k j x.first) (multiples j i l k x.second))
    (column_sum (multiples k j i l x.third) (multiples l k j i x.fourth))
    ≡ circulant_times i j k l x
unfolding column_sum multiples circulant_times row_times sum_of_four
circulant_times-multiples i j k l x = refl

-- the sum of four words
pub column_of_word-four : (a b c d : ℕ) (p q r s : Column) → column_of_word a ≡ p → column_of_word b ≡ q →
    column_of_word c ≡ r → column_of_word d ≡ s →
    column_of_word (bit_xor (bit_xor a b) (bit_xor c d)) ≡ column_sum (column_sum p q) (column_sum r s)
column_of_word-four a b c d p q r s ea eb ec ed =
    column_of_word-xor (bit_xor a b) (bit_xor c d)
    ∙ rw (column_of_word-xor a b, column_of_word-xor c d, ea, eb, ec, ed) refl

-- eight bytes, the lowest first, are two words
number_of_two : (x y : Column) →
    from_le_bytes w64 (column_bytes x ++ column_bytes y) ≡ word_of x + word_of y * 4294967296
unfolding column_bytes word_of
number_of_two x y = omega arith

word_of-lt : (x : Column) → IsByteColumn x → word_of x < 4294967296
unfolding word_of
word_of-lt x b = let p = b.first in let q = b.second in let r = b.third in let s = b.fourth in omega arith

pub front_word : (x y : Column) (n : ℕ) → IsByteColumn x → n ≡ from_le_bytes w64 (column_bytes x ++ column_bytes y) →
    column_of_word (n % 4294967296) ≡ x
front_word x y n b is =
    let e : n ≡ word_of x + word_of y * 4294967296 = is ∙ number_of_two x y in
    let low = word_of-lt x b in
    let w : n % 4294967296 ≡ word_of x = omega arith in
    ap column_of_word w ∙ column_of_word-word_of x b

pub back_word : (x y : Column) (n : ℕ) → IsByteColumn x → IsByteColumn y →
    n ≡ from_le_bytes w64 (column_bytes x ++ column_bytes y) → column_of_word (n / 4294967296) ≡ y
back_word x y n b d is =
    let e : n ≡ word_of x + word_of y * 4294967296 = is ∙ number_of_two x y in
    let low = word_of-lt x b in
    let w : n / 4294967296 ≡ word_of y = omega arith in
    ap column_of_word w ∙ column_of_word-word_of y d

word_of-column_of_word : (w : ℕ) → w < 2 ^ 32 → word_of (column_of_word w) ≡ w
unfolding word_of column_of_word
word_of-column_of_word w low = from_le_bytes-to_le_bytes_4 w low

eight_bytes : (x y : Column) → IsByteColumn x → IsByteColumn y → (i : ℕ) →
    get_or (column_bytes x ++ column_bytes y) i 0 < 256
unfolding column_bytes
eight_bytes x y p q zero = p.first
eight_bytes x y p q (suc zero) = p.second
eight_bytes x y p q (suc (suc zero)) = p.third
eight_bytes x y p q (suc (suc (suc zero))) = p.fourth
eight_bytes x y p q (suc (suc (suc (suc zero)))) = q.first
eight_bytes x y p q (suc (suc (suc (suc (suc zero))))) = q.second
eight_bytes x y p q (suc (suc (suc (suc (suc (suc zero)))))) = q.third
eight_bytes x y p q (suc (suc (suc (suc (suc (suc (suc zero))))))) = q.fourth
eight_bytes x y p q (suc (suc (suc (suc (suc (suc (suc (suc i)))))))) = omega arith

length_eight : (x y : Column) → length (column_bytes x ++ column_bytes y) ≡ 8
unfolding column_bytes
length_eight x y = refl

pub two_words_bytes : (w x : ℕ) → w < 2 ^ 32 → x < 2 ^ 32 →
    to_le_bytes w64 (x * 4294967296 + w) ≡ column_bytes (column_of_word w) ++ column_bytes (column_of_word x)
two_words_bytes w x low high =
    let n = number_of_two (column_of_word w) (column_of_word x) in
    let front = word_of-column_of_word w low in
    let back = word_of-column_of_word x high in
    le_bytes_8 _ (x * 4294967296 + w) (length_eight (column_of_word w) (column_of_word x))
    (eight_bytes (column_of_word w) (column_of_word x) (IsByteColumn-column_of_word w) (IsByteColumn-column_of_word x))
    (omega arith)

-- four words and a key word
key_last : (a b c k : ℕ) → bit_xor (bit_xor (bit_xor a k) b) c ≡ bit_xor (bit_xor (bit_xor a b) c) k
key_last a b c k =
    ap (λ (x : ℕ). bit_xor x c) (xor_assoc a k b ∙ ap (λ (x : ℕ). bit_xor a x) (xor_comm k b) ∙ sym (xor_assoc a b k))
    ∙ xor_assoc (bit_xor a b) k c
    ∙ ap (λ (x : ℕ). bit_xor (bit_xor a b) x) (xor_comm k c)
    ∙ sym (xor_assoc (bit_xor a b) c k)

pub column_of_word-keyed : (a b c d k : ℕ) (x : Column) → column_of_word (bit_xor (bit_xor a b) (bit_xor c d)) ≡ x →
    column_of_word (bit_xor (bit_xor (bit_xor a k) b) (bit_xor c d)) ≡ column_sum x (column_of_word k)
column_of_word-keyed a b c d k x is =
    ap column_of_word (key_last a b (bit_xor c d) k)
    ∙ column_of_word-xor (bit_xor (bit_xor a b) (bit_xor c d)) k
    ∙ ap (λ (y : Column). column_sum y (column_of_word k)) is

pub column_sum-zero : (x : Column) → column_sum x (column_of_word 0) ≡ x
unfolding column_sum column_of_word
column_sum-zero x =
    column_from _ x (xor_zero_r x.first) (xor_zero_r x.second) (xor_zero_r x.third) (xor_zero_r x.fourth)

-- what was added twice is gone
pub xor_twice : (a k : ℕ) → bit_xor (bit_xor a k) k ≡ a
xor_twice a k = xor_assoc a k k ∙ (ap (λ (x : ℕ). bit_xor a x) (xor_self k) ∙ xor_zero_r a)

pub column_sum-twice : (x k : Column) → column_sum (column_sum x k) k ≡ x
unfolding column_sum
column_sum-twice x k =
    column_from _ x (xor_twice x.first k.first) (xor_twice x.second k.second) (xor_twice x.third k.third)
    (xor_twice x.fourth k.fourth)
