-- What the rounds on words do to blocks.
use Rattle.std.proofs.Common.{◌≡◌, ◌<◌, ◌+◌, ◌-◌, ◌/◌, ◌%◌, ℕ, List, [], ◌∷◌, ◌++◌, refl, sym, ◌∙◌, arith, ap}
use Rattle.std.specs.Prelude.{bit_xor, slice_index}
use Rattle.std.specs.Int.{from_le_bytes, w64}
use Rattle.aes_block.specs.declared.tables.TheConstants.{ROUND, SUBSTITUTED, INVERSE_ROUND, INVERSE_SUBSTITUTED}
use Rattle.aes_block.specs.Bytes.{IsBytes}
use Rattle.aes_block.specs.Field.{product, power_of_x}
use Rattle.aes_block.specs.Column.{Column, column_bytes, column_sum, mixed, circulant_times, row_times, sum_of_four}
use Rattle.aes_block.specs.State.{from_places, from_columns, column_of}
use Rattle.aes_block.specs.State.{sub_bytes, shift_rows, mix_columns, block_sum}
use Rattle.aes_block.specs.RoundKey.{rotated_word, substituted_word, round_constant, next_key}
use Rattle.aes_block.specs.Word.{column_of_word, block_of_words, gathered}
use Rattle.aes_block.proofs.Blocks.{column_of-from_columns_0, column_of-from_columns_1}
use Rattle.aes_block.proofs.Blocks.{column_of-from_columns_2, column_of-from_columns_3}
use Rattle.aes_block.proofs.Blocks.{IsBytes-from_columns, IsByteColumn-column_of, IsByteColumn-mixed, columns_spelled}
use Rattle.aes_block.proofs.Products.{power_of_x-lt}
use Rattle.aes_block.proofs.Linear.{product-xor, interchange}
use Rattle.aes_block.proofs.MixInverse.{IsByteColumn, column_from, unmixed, mixed-unmixed, circulant_times-one}
use Rattle.aes_block.proofs.TableRules.{table_in, round_0, round_1, round_2, round_3}
use Rattle.aes_block.proofs.TableRules.{substituted_0, substituted_1, substituted_2, substituted_3}
use Rattle.aes_block.proofs.TableRules.{inverse_round_0, inverse_round_1, inverse_round_2, inverse_round_3}
use Rattle.aes_block.proofs.TableRules.{inverse_substituted_0, inverse_substituted_1}
use Rattle.aes_block.proofs.TableRules.{inverse_substituted_2, inverse_substituted_3}
use Rattle.aes_block.proofs.TableRules.{s_box-lt, inverse_s_box, inverse_s_box-lt}
use Rattle.aes_block.proofs.TableRules.{inverse_s_box-s_box, s_box-inverse_s_box}
use Rattle.aes_block.proofs.WordSums.{column_of_word-xor, column_of_word-four, front_word, back_word}
use Rattle.aes_block.proofs.WordSums.{circulant_times-multiples, IsByteColumn-column_of_word, column_of_word-keyed}
use Rattle.aes_block.proofs.WordSums.{column_sum-zero, column_sum-twice}

-- columns of bytes
IsByteColumn-gathered : (w x y z : ℕ) → IsByteColumn (gathered w x y z)
unfolding gathered column_of_word
IsByteColumn-gathered w x y z =
    record { first = omega arith; second = omega arith; third = omega arith; fourth = omega arith }

IsByteColumn-substituted_word : (x : Column) → IsByteColumn x → IsByteColumn (substituted_word x)
unfolding substituted_word
IsByteColumn-substituted_word x b = record {
  first = s_box-lt x.first b.first;
  second = s_box-lt x.second b.second;
  third = s_box-lt x.third b.third;
  fourth = s_box-lt x.fourth b.fourth;
}

-- the inverse S-box on each byte of a column
unfoldable pub unsubstituted_word : Column → Column
unsubstituted_word x = record {
  first = inverse_s_box x.first;
  second = inverse_s_box x.second;
  third = inverse_s_box x.third;
  fourth = inverse_s_box x.fourth;
}

IsByteColumn-unsubstituted_word : (x : Column) → IsByteColumn x → IsByteColumn (unsubstituted_word x)
unfolding unsubstituted_word
IsByteColumn-unsubstituted_word x b = record {
  first = inverse_s_box-lt x.first b.first;
  second = inverse_s_box-lt x.second b.second;
  third = inverse_s_box-lt x.third b.third;
  fourth = inverse_s_box-lt x.fourth b.fourth;
}

substituted_word-unsubstituted_word : (x : Column) → IsByteColumn x → substituted_word (unsubstituted_word x) ≡ x
unfolding substituted_word unsubstituted_word
substituted_word-unsubstituted_word x b =
    column_from _ x (s_box-inverse_s_box x.first b.first) (s_box-inverse_s_box x.second b.second)
    (s_box-inverse_s_box x.third b.third) (s_box-inverse_s_box x.fourth b.fourth)

unsubstituted_word-substituted_word : (x : Column) → IsByteColumn x → unsubstituted_word (substituted_word x) ≡ x
unfolding substituted_word unsubstituted_word
unsubstituted_word-substituted_word x b =
    column_from _ x (inverse_s_box-s_box x.first b.first) (inverse_s_box-s_box x.second b.second)
    (inverse_s_box-s_box x.third b.third) (inverse_s_box-s_box x.fourth b.fourth)

-- the sum of a word's look-ups in four tables, one for each byte of the column that is gathered
unfoldable pub look_up : List (List ℕ) → Column → ℕ
look_up tables x =
    bit_xor
    (bit_xor (slice_index (table_in tables 0) x.first) (slice_index (table_in tables 1) x.second))
    (bit_xor (slice_index (table_in tables 2) x.third) (slice_index (table_in tables 3) x.fourth))

-- with a key word, at the place where the code adds it
unfoldable pub look_up_keyed : List (List ℕ) → Column → ℕ → ℕ
look_up_keyed tables x k =
    bit_xor
    (bit_xor (bit_xor (slice_index (table_in tables 0) x.first) k) (slice_index (table_in tables 1) x.second))
    (bit_xor (slice_index (table_in tables 2) x.third) (slice_index (table_in tables 3) x.fourth))

keyed : (tables : List (List ℕ)) (x y : Column) (k : ℕ) → column_of_word (look_up tables x) ≡ y →
    column_of_word (look_up_keyed tables x k) ≡ column_sum y (column_of_word k)
unfolding look_up look_up_keyed
keyed tables x y k is = column_of_word-keyed _ _ (slice_index (table_in tables 2) x.third) (slice_index (table_in tables 3) x.fourth) k y is

mixed_lookup : (x : Column) → IsByteColumn x → column_of_word (look_up ROUND x) ≡ mixed (substituted_word x)
unfolding look_up mixed substituted_word
mixed_lookup x b =
    column_of_word-four _ _ _ _ _ _ _ _ (round_0 x.first b.first) (round_1 x.second b.second)
    (round_2 x.third b.third) (round_3 x.fourth b.fourth)
    ∙ circulant_times-multiples 2 3 1 1 (substituted_word x)

unmixed_lookup : (x : Column) → IsByteColumn x → column_of_word (look_up INVERSE_ROUND x) ≡ unmixed (unsubstituted_word x)
unfolding look_up unmixed unsubstituted_word
unmixed_lookup x b =
    column_of_word-four _ _ _ _ _ _ _ _ (inverse_round_0 x.first b.first) (inverse_round_1 x.second b.second)
    (inverse_round_2 x.third b.third) (inverse_round_3 x.fourth b.fourth)
    ∙ circulant_times-multiples 14 11 13 9 (unsubstituted_word x)

substituted_lookup : (x : Column) → IsByteColumn x → column_of_word (look_up SUBSTITUTED x) ≡ substituted_word x
unfolding look_up substituted_word
substituted_lookup x b =
    column_of_word-four _ _ _ _ _ _ _ _ (substituted_0 x.first b.first) (substituted_1 x.second b.second)
    (substituted_2 x.third b.third) (substituted_3 x.fourth b.fourth)
    ∙ circulant_times-multiples 1 0 0 0 (substituted_word x)
    ∙ circulant_times-one (substituted_word x) (IsByteColumn-substituted_word x b)

unsubstituted_lookup : (x : Column) → IsByteColumn x → column_of_word (look_up INVERSE_SUBSTITUTED x) ≡ unsubstituted_word x
unfolding look_up unsubstituted_word
unsubstituted_lookup x b =
    column_of_word-four _ _ _ _ _ _ _ _ (inverse_substituted_0 x.first b.first) (inverse_substituted_1 x.second b.second)
    (inverse_substituted_2 x.third b.third) (inverse_substituted_3 x.fourth b.fourth)
    ∙ circulant_times-multiples 1 0 0 0 (unsubstituted_word x)
    ∙ circulant_times-one (unsubstituted_word x) (IsByteColumn-unsubstituted_word x b)

pub mixed_gathered : (w x y z k : ℕ) →
    column_of_word (look_up_keyed ROUND (gathered w x y z) k)
    ≡ column_sum (mixed (substituted_word (gathered w x y z))) (column_of_word k)
mixed_gathered w x y z k = keyed ROUND _ _ k (mixed_lookup (gathered w x y z) (IsByteColumn-gathered w x y z))

pub substituted_gathered : (w x y z k : ℕ) →
    column_of_word (look_up_keyed SUBSTITUTED (gathered w x y z) k)
    ≡ column_sum (substituted_word (gathered w x y z)) (column_of_word k)
substituted_gathered w x y z k =
    keyed SUBSTITUTED _ _ k (substituted_lookup (gathered w x y z) (IsByteColumn-gathered w x y z))

-- the other way round: the key is added again, and what was looked up comes back
pub unmixed_gathered : (w x y z k : ℕ) →
    substituted_word (mixed (column_sum (column_of_word (look_up_keyed INVERSE_ROUND (gathered w x y z) k)) (column_of_word k)))
    ≡ gathered w x y z
unmixed_gathered w x y z k =
    let b = IsByteColumn-gathered w x y z in
    let back : Column = unsubstituted_word (gathered w x y z) in
    ap (λ (u : Column). substituted_word (mixed u))
    (ap (λ (u : Column). column_sum u (column_of_word k)) (keyed INVERSE_ROUND _ _ k (unmixed_lookup _ b))
    ∙ column_sum-twice (unmixed back) (column_of_word k))
    ∙ ap substituted_word (mixed-unmixed back (IsByteColumn-unsubstituted_word _ b))
    ∙ substituted_word-unsubstituted_word _ b

pub unsubstituted_gathered : (w x y z k : ℕ) →
    substituted_word (column_sum (column_of_word (look_up_keyed INVERSE_SUBSTITUTED (gathered w x y z) k)) (column_of_word k))
    ≡ gathered w x y z
unsubstituted_gathered w x y z k =
    let b = IsByteColumn-gathered w x y z in
    let back : Column = unsubstituted_word (gathered w x y z) in
    ap substituted_word
    (ap (λ (u : Column). column_sum u (column_of_word k)) (keyed INVERSE_SUBSTITUTED _ _ k (unsubstituted_lookup _ b))
    ∙ column_sum-twice back (column_of_word k))
    ∙ substituted_word-unsubstituted_word _ b

pub key_lookup : (w : ℕ) →
    column_of_word (look_up SUBSTITUTED (rotated_word (column_of_word w)))
    ≡ substituted_word (rotated_word (column_of_word w))
unfolding rotated_word
key_lookup w =
    let b = IsByteColumn-column_of_word w in
    substituted_lookup (rotated_word (column_of_word w))
    (record { first = b.second; second = b.third; third = b.fourth; fourth = b.first })

-- the words of a block
pub block_of_words-two : (s : List ℕ) (front back : ℕ) → IsBytes 16 s →
    front ≡ from_le_bytes w64 (column_bytes (column_of s 0) ++ column_bytes (column_of s 1)) →
    back ≡ from_le_bytes w64 (column_bytes (column_of s 2) ++ column_bytes (column_of s 3)) →
    block_of_words (front % 4294967296 ∷ front / 4294967296 ∷ back % 4294967296 ∷ back / 4294967296 ∷ []) ≡ s
unfolding block_of_words
block_of_words-two s front back b is so =
    let w = IsByteColumn-column_of s b 0 (omega arith) in
    let x = IsByteColumn-column_of s b 1 (omega arith) in
    let y = IsByteColumn-column_of s b 2 (omega arith) in
    let z = IsByteColumn-column_of s b 3 (omega arith) in
    rw (front_word _ _ front w is, back_word _ _ front w x is, front_word _ _ back y so, back_word _ _ back y z so)
    (columns_spelled s b.long)

from_columns-column_sum : (a b c d e f g h : Column) →
    from_columns (column_sum a e) (column_sum b f) (column_sum c g) (column_sum d h)
    ≡ block_sum (from_columns a b c d) (from_columns e f g h)
unfolding from_columns column_bytes column_sum block_sum from_places
from_columns-column_sum a b c d e f g h = refl

-- four words, each the sum of a column and a key word
pub words_keyed : (k : List ℕ) (w x y z : ℕ) (a b c d : Column) →
    column_of_word w ≡ column_sum a (column_of_word (slice_index k 0)) →
    column_of_word x ≡ column_sum b (column_of_word (slice_index k 1)) →
    column_of_word y ≡ column_sum c (column_of_word (slice_index k 2)) →
    column_of_word z ≡ column_sum d (column_of_word (slice_index k 3)) →
    block_of_words (w ∷ x ∷ y ∷ z ∷ []) ≡ block_sum (from_columns a b c d) (block_of_words k)
unfolding block_of_words
words_keyed k w x y z a b c d ew ex ey ez = rw (ew, ex, ey, ez) (from_columns-column_sum a b c d _ _ _ _)

pub block_of_words-sum : (s k : List ℕ) →
    block_of_words (bit_xor (slice_index s 0) (slice_index k 0) ∷ bit_xor (slice_index s 1) (slice_index k 1)
    ∷ bit_xor (slice_index s 2) (slice_index k 2) ∷ bit_xor (slice_index s 3) (slice_index k 3) ∷ [])
    ≡ block_sum (block_of_words s) (block_of_words k)
unfolding block_of_words
block_of_words-sum s k =
    words_keyed k _ _ _ _ _ _ _ _ (column_of_word-xor (slice_index s 0) (slice_index k 0))
    (column_of_word-xor (slice_index s 1) (slice_index k 1)) (column_of_word-xor (slice_index s 2) (slice_index k 2))
    (column_of_word-xor (slice_index s 3) (slice_index k 3))

pub shift_rows-words : (s : List ℕ) →
    shift_rows (sub_bytes (block_of_words s))
    ≡ from_columns
    (substituted_word (gathered (slice_index s 0) (slice_index s 1) (slice_index s 2) (slice_index s 3)))
    (substituted_word (gathered (slice_index s 1) (slice_index s 2) (slice_index s 3) (slice_index s 0)))
    (substituted_word (gathered (slice_index s 2) (slice_index s 3) (slice_index s 0) (slice_index s 1)))
    (substituted_word (gathered (slice_index s 3) (slice_index s 0) (slice_index s 1) (slice_index s 2)))
unfolding shift_rows sub_bytes from_places block_of_words from_columns column_bytes substituted_word gathered
shift_rows-words s = refl

pub mix_columns-from_columns : (a b c d : Column) →
    mix_columns (from_columns a b c d) ≡ from_columns (mixed a) (mixed b) (mixed c) (mixed d)
unfolding mix_columns
mix_columns-from_columns a b c d =
    rw (column_of-from_columns_0, column_of-from_columns_1, column_of-from_columns_2, column_of-from_columns_3) refl

sub_bytes-from_columns : (a b c d : Column) →
    sub_bytes (from_columns a b c d)
    ≡ from_columns (substituted_word a) (substituted_word b) (substituted_word c) (substituted_word d)
unfolding sub_bytes from_places from_columns column_bytes substituted_word
sub_bytes-from_columns a b c d = refl

shift_rows-gathered : (w x y z : ℕ) →
    shift_rows (from_columns (gathered w z y x) (gathered x w z y) (gathered y x w z) (gathered z y x w))
    ≡ from_columns (column_of_word w) (column_of_word x) (column_of_word y) (column_of_word z)
unfolding shift_rows from_places from_columns column_bytes gathered
shift_rows-gathered w x y z = refl

block_spelled : (s : List ℕ) →
    from_columns (column_of_word (slice_index s 0)) (column_of_word (slice_index s 1))
    (column_of_word (slice_index s 2)) (column_of_word (slice_index s 3))
    ≡ block_of_words s
unfolding block_of_words
block_spelled s = refl

gathered_same : (w : ℕ) → gathered w w w w ≡ column_of_word w
unfolding gathered
gathered_same w = column_from _ _ refl refl refl refl

-- words whose bytes are substituted to those of others, gathered along the rows, become those words
substituted_back : (s : List ℕ) (a b c d : Column) →
    substituted_word a ≡ gathered (slice_index s 0) (slice_index s 3) (slice_index s 2) (slice_index s 1) →
    substituted_word b ≡ gathered (slice_index s 1) (slice_index s 0) (slice_index s 3) (slice_index s 2) →
    substituted_word c ≡ gathered (slice_index s 2) (slice_index s 1) (slice_index s 0) (slice_index s 3) →
    substituted_word d ≡ gathered (slice_index s 3) (slice_index s 2) (slice_index s 1) (slice_index s 0) →
    shift_rows (sub_bytes (from_columns a b c d)) ≡ block_of_words s
substituted_back s a b c d ea eb ec ed =
    ap shift_rows (sub_bytes-from_columns a b c d ∙ rw (ea, eb, ec, ed) refl)
    ∙ shift_rows-gathered (slice_index s 0) (slice_index s 1) (slice_index s 2) (slice_index s 3) ∙ block_spelled s

-- with a key, before they are mixed
pub unmixed_words_back : (s k : List ℕ) (w x y z : ℕ) →
    substituted_word (mixed (column_sum (column_of_word w) (column_of_word (slice_index k 0))))
    ≡ gathered (slice_index s 0) (slice_index s 3) (slice_index s 2) (slice_index s 1) →
    substituted_word (mixed (column_sum (column_of_word x) (column_of_word (slice_index k 1))))
    ≡ gathered (slice_index s 1) (slice_index s 0) (slice_index s 3) (slice_index s 2) →
    substituted_word (mixed (column_sum (column_of_word y) (column_of_word (slice_index k 2))))
    ≡ gathered (slice_index s 2) (slice_index s 1) (slice_index s 0) (slice_index s 3) →
    substituted_word (mixed (column_sum (column_of_word z) (column_of_word (slice_index k 3))))
    ≡ gathered (slice_index s 3) (slice_index s 2) (slice_index s 1) (slice_index s 0) →
    shift_rows (sub_bytes (mix_columns (block_sum (block_of_words (w ∷ x ∷ y ∷ z ∷ [])) (block_of_words k))))
    ≡ block_of_words s
unfolding block_of_words
unmixed_words_back s k w x y z ew ex ey ez =
    ap (λ (b : List ℕ). shift_rows (sub_bytes b))
    (ap mix_columns (sym (from_columns-column_sum _ _ _ _ _ _ _ _)) ∙ mix_columns-from_columns _ _ _ _)
    ∙ substituted_back s _ _ _ _ ew ex ey ez

-- and with no mixing
pub words_back : (s k : List ℕ) (w x y z : ℕ) →
    substituted_word (column_sum (column_of_word w) (column_of_word (slice_index k 0)))
    ≡ gathered (slice_index s 0) (slice_index s 3) (slice_index s 2) (slice_index s 1) →
    substituted_word (column_sum (column_of_word x) (column_of_word (slice_index k 1)))
    ≡ gathered (slice_index s 1) (slice_index s 0) (slice_index s 3) (slice_index s 2) →
    substituted_word (column_sum (column_of_word y) (column_of_word (slice_index k 2)))
    ≡ gathered (slice_index s 2) (slice_index s 1) (slice_index s 0) (slice_index s 3) →
    substituted_word (column_sum (column_of_word z) (column_of_word (slice_index k 3)))
    ≡ gathered (slice_index s 3) (slice_index s 2) (slice_index s 1) (slice_index s 0) →
    shift_rows (sub_bytes (block_sum (block_of_words (w ∷ x ∷ y ∷ z ∷ [])) (block_of_words k))) ≡ block_of_words s
unfolding block_of_words
words_back s k w x y z ew ex ey ez =
    ap (λ (b : List ℕ). shift_rows (sub_bytes b)) (sym (from_columns-column_sum _ _ _ _ _ _ _ _))
    ∙ substituted_back s _ _ _ _ ew ex ey ez

-- a column that is substituted and then looked up in the tables that unmix
pub unmixed_key_back : (w r s : ℕ) →
    substituted_word (mixed (column_sum (column_of_word r) (column_of_word 0))) ≡ gathered s s s s →
    column_of_word s ≡ column_sum (substituted_word (gathered w w w w)) (column_of_word 0) →
    mixed (column_of_word r) ≡ column_of_word w
unmixed_key_back w r s back is =
    ap mixed (sym (column_sum-zero (column_of_word r)))
    ∙ sym (unsubstituted_word-substituted_word _ (IsByteColumn-mixed (column_sum (column_of_word r) (column_of_word 0))))
    ∙ ap unsubstituted_word (back ∙ gathered_same s ∙ is ∙ column_sum-zero _ ∙ ap substituted_word (gathered_same w))
    ∙ unsubstituted_word-substituted_word _ (IsByteColumn-column_of_word w)

-- mixing is linear
row_times-column_sum : (i j k l : ℕ) (x y : Column) →
    row_times i j k l (column_sum x y) ≡ bit_xor (row_times i j k l x) (row_times i j k l y)
unfolding row_times sum_of_four column_sum
row_times-column_sum i j k l x y =
    rw (
      product-xor i x.first y.first,
      product-xor j x.second y.second,
      product-xor k x.third y.third,
      product-xor l x.fourth y.fourth,
    )
    (rw (
      interchange (product i x.first) (product i y.first) (product j x.second) (product j y.second),
      interchange (product k x.third) (product k y.third) (product l x.fourth) (product l y.fourth),
    )
    (interchange (bit_xor (product i x.first) (product j x.second)) (bit_xor (product i y.first) (product j y.second))
    (bit_xor (product k x.third) (product l x.fourth)) (bit_xor (product k y.third) (product l y.fourth))))

mixed-column_sum : (x y : Column) → mixed (column_sum x y) ≡ column_sum (mixed x) (mixed y)
unfolding mixed circulant_times column_sum
mixed-column_sum x y =
    column_from _ _ (row_times-column_sum 2 3 1 1 x y) (row_times-column_sum 1 2 3 1 x y)
    (row_times-column_sum 1 1 2 3 x y) (row_times-column_sum 3 1 1 2 x y)

column_of-block_sum : (s t : List ℕ) →
    (column_of (block_sum s t) 0 ≡ column_sum (column_of s 0) (column_of t 0))
    × (column_of (block_sum s t) 1 ≡ column_sum (column_of s 1) (column_of t 1))
    × (column_of (block_sum s t) 2 ≡ column_sum (column_of s 2) (column_of t 2))
    × (column_of (block_sum s t) 3 ≡ column_sum (column_of s 3) (column_of t 3))
unfolding column_of block_sum from_places column_sum
column_of-block_sum s t = (refl, refl, refl, refl)

pub mix_columns-block_sum : (s t : List ℕ) → mix_columns (block_sum s t) ≡ block_sum (mix_columns s) (mix_columns t)
unfolding mix_columns
mix_columns-block_sum s t =
    let e = column_of-block_sum s t in
    rw (
      e.0,
      e.1,
      e.2,
      e.3,
      mixed-column_sum (column_of s 0) (column_of t 0),
      mixed-column_sum (column_of s 1) (column_of t 1),
      mixed-column_sum (column_of s 2) (column_of t 2),
      mixed-column_sum (column_of s 3) (column_of t 3),
    )
    (from_columns-column_sum _ _ _ _ _ _ _ _)

-- the words of a block are bytes
pub IsBytes-block_of_words : (s : List ℕ) → IsBytes 16 (block_of_words s)
unfolding block_of_words
IsBytes-block_of_words s =
    IsBytes-from_columns _ _ _ _ (IsByteColumn-column_of_word (slice_index s 0))
    (IsByteColumn-column_of_word (slice_index s 1)) (IsByteColumn-column_of_word (slice_index s 2))
    (IsByteColumn-column_of_word (slice_index s 3))

-- the words of the next round key, where t is what is added to the first of these
unfoldable pub next_words : List ℕ → ℕ → List ℕ
next_words k t =
    let w = bit_xor (slice_index k 0) t in
    let x = bit_xor (slice_index k 1) w in
    let y = bit_xor (slice_index k 2) x in
    w ∷ x ∷ y ∷ bit_xor (slice_index k 3) y ∷ []

round_constant-word : (j n : ℕ) → n ≡ power_of_x j → n < 256 → column_of_word n ≡ round_constant (j + 1)
unfolding round_constant column_of_word
round_constant-word j n is low =
    let back : j + 1 - 1 ≡ j = omega arith in
    let byte : n % 256 ≡ n = omega arith in
    rw back (column_from _ _ (byte ∙ is) (omega arith) (omega arith) (omega arith))

pub next_key-words : (j : ℕ) (k : List ℕ) (w c : ℕ) →
    column_of_word w ≡ substituted_word (rotated_word (column_of_word (slice_index k 3))) → c ≡ power_of_x j →
    block_of_words (next_words k (bit_xor w c)) ≡ next_key (j + 1) (block_of_words k)
unfolding next_words block_of_words next_key
next_key-words j k w c is constant =
    let c_is = round_constant-word j c constant (rw constant (power_of_x-lt j)) in
    rw (column_of-from_columns_0, column_of-from_columns_1, column_of-from_columns_2, column_of-from_columns_3)
    (rw (
      column_of_word-xor (slice_index k 3) _,
      column_of_word-xor (slice_index k 2) _,
      column_of_word-xor (slice_index k 1) _,
      column_of_word-xor (slice_index k 0) _,
      column_of_word-xor w c,
      is,
      c_is,
    )
    refl)
