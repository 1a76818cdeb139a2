-- The tables are the definitions, each proved once over the whole table by computation.
use Rattle.std.proofs.Common.{◌≡◌, ◌<◌, ◌∙◌, ap, arith, refl, sym, true, ℕ, List, []}
use Rattle.std.specs.Prelude.{slice_index, slice_index_or}
use Rattle.aes_block.specs.declared.tables.TheConstants.{ROUND, SUBSTITUTED, INVERSE_ROUND, INVERSE_SUBSTITUTED}
use Rattle.aes_block.specs.declared.tables.TheConstants.{ROUND_CONSTANTS}
use Rattle.aes_block.specs.Bytes.{each_byte}
use Rattle.aes_block.specs.Field.{product, product_of_bits, times_x, inverse, power_of_x}
use Rattle.aes_block.specs.SBox.{s_box, from_bits, affine_bit}
use Rattle.aes_block.specs.Word.{column_of_word}
use Rattle.aes_block.proofs.EachByte.{agree, agree_at, agree_to, agree_below, gives_bytes, gives_bytes_at}
use Rattle.aes_block.proofs.Products.{product-lt}
use Rattle.aes_block.proofs.WordSums.{word_of, column_of_word-word_of, multiples}

-- a table of four
abbrev pub table_in : List (List ℕ) → ℕ → List ℕ
table_in tables r = slice_index_or tables r []

-- the two boxes by their tables
abbrev box : ℕ → ℕ
box b = slice_index (table_in SUBSTITUTED 0) b

-- the inverse S-box (FIPS 197, 5.3.2)
abbrev pub inverse_s_box : ℕ → ℕ
inverse_s_box b = slice_index (table_in INVERSE_SUBSTITUTED 0) b

s_box_test : agree box s_box ≡ true
unfolding each_byte inverse product product_of_bits times_x s_box from_bits affine_bit
s_box_test = refl

s_box_table : (b : ℕ) → b < 256 → box b ≡ s_box b
s_box_table b low = agree_at box s_box s_box_test b low

s_box_low_test : gives_bytes box ≡ true
unfolding each_byte
s_box_low_test = refl

pub s_box-lt : (b : ℕ) → b < 256 → s_box b < 256
s_box-lt b low = rw (← s_box_table b low) (gives_bytes_at box s_box_low_test b low)

inverse_s_box_low_test : gives_bytes inverse_s_box ≡ true
unfolding each_byte
inverse_s_box_low_test = refl

pub inverse_s_box-lt : (b : ℕ) → b < 256 → inverse_s_box b < 256
inverse_s_box-lt b low = gives_bytes_at inverse_s_box inverse_s_box_low_test b low

there_test : agree (λ b. inverse_s_box (box b)) (λ b. b) ≡ true
unfolding each_byte
there_test = refl

-- each undoes the other
pub inverse_s_box-s_box : (b : ℕ) → b < 256 → inverse_s_box (s_box b) ≡ b
inverse_s_box-s_box b low =
    ap (λ (x : ℕ). inverse_s_box x) (sym (s_box_table b low))
    ∙ agree_at (λ b. inverse_s_box (box b)) (λ b. b) there_test b low

back_test : agree (λ b. box (inverse_s_box b)) (λ b. b) ≡ true
unfolding each_byte
back_test = refl

pub s_box-inverse_s_box : (b : ℕ) → b < 256 → s_box (inverse_s_box b) ≡ b
s_box-inverse_s_box b low =
    sym (s_box_table (inverse_s_box b) (inverse_s_box-lt b low))
    ∙ agree_at (λ b. box (inverse_s_box b)) (λ b. b) back_test b low

-- the word of multiples of a box's value
abbrev entry : (ℕ → ℕ) → ℕ → ℕ → ℕ → ℕ → ℕ → ℕ
entry f i j k l b = word_of (multiples i j k l (f b))

-- a table of such words
table_rule : (table : List ℕ) (f g : ℕ → ℕ) (i j k l : ℕ) → agree (slice_index table) (entry f i j k l) ≡ true →
    ((b : ℕ) → b < 256 → f b ≡ g b) → i < 256 → j < 256 → k < 256 → l < 256 → (b : ℕ) → b < 256 →
    column_of_word (slice_index table b) ≡ multiples i j k l (g b)
unfolding multiples
table_rule table f g i j k l test is p q r s b low =
    ap column_of_word (agree_at (slice_index table) (entry f i j k l) test b low)
    ∙ column_of_word-word_of (multiples i j k l (f b)) (record {
      first = product-lt i (f b) p;
      second = product-lt j (f b) q;
      third = product-lt k (f b) r;
      fourth = product-lt l (f b) s;
    })
    ∙ ap (λ (x : ℕ). multiples i j k l x) (is b low)

round_0_test : agree (slice_index (table_in ROUND 0)) (entry box 2 1 1 3) ≡ true
unfolding each_byte multiples word_of product product_of_bits times_x
round_0_test = refl

pub round_0 : (b : ℕ) → b < 256 → column_of_word (slice_index (table_in ROUND 0) b) ≡ multiples 2 1 1 3 (s_box b)
round_0 b low =
    table_rule (table_in ROUND 0) box s_box 2 1 1 3 round_0_test s_box_table
    (omega arith) (omega arith) (omega arith) (omega arith) b low

round_1_test : agree (slice_index (table_in ROUND 1)) (entry box 3 2 1 1) ≡ true
unfolding each_byte multiples word_of product product_of_bits times_x
round_1_test = refl

pub round_1 : (b : ℕ) → b < 256 → column_of_word (slice_index (table_in ROUND 1) b) ≡ multiples 3 2 1 1 (s_box b)
round_1 b low =
    table_rule (table_in ROUND 1) box s_box 3 2 1 1 round_1_test s_box_table
    (omega arith) (omega arith) (omega arith) (omega arith) b low

round_2_test : agree (slice_index (table_in ROUND 2)) (entry box 1 3 2 1) ≡ true
unfolding each_byte multiples word_of product product_of_bits times_x
round_2_test = refl

pub round_2 : (b : ℕ) → b < 256 → column_of_word (slice_index (table_in ROUND 2) b) ≡ multiples 1 3 2 1 (s_box b)
round_2 b low =
    table_rule (table_in ROUND 2) box s_box 1 3 2 1 round_2_test s_box_table
    (omega arith) (omega arith) (omega arith) (omega arith) b low

round_3_test : agree (slice_index (table_in ROUND 3)) (entry box 1 1 3 2) ≡ true
unfolding each_byte multiples word_of product product_of_bits times_x
round_3_test = refl

pub round_3 : (b : ℕ) → b < 256 → column_of_word (slice_index (table_in ROUND 3) b) ≡ multiples 1 1 3 2 (s_box b)
round_3 b low =
    table_rule (table_in ROUND 3) box s_box 1 1 3 2 round_3_test s_box_table
    (omega arith) (omega arith) (omega arith) (omega arith) b low

substituted_0_test : agree (slice_index (table_in SUBSTITUTED 0)) (entry box 1 0 0 0) ≡ true
unfolding each_byte multiples word_of product product_of_bits times_x
substituted_0_test = refl

pub substituted_0 : (b : ℕ) → b < 256 → column_of_word (slice_index (table_in SUBSTITUTED 0) b) ≡ multiples 1 0 0 0 (s_box b)
substituted_0 b low =
    table_rule (table_in SUBSTITUTED 0) box s_box 1 0 0 0 substituted_0_test s_box_table
    (omega arith) (omega arith) (omega arith) (omega arith) b low

substituted_1_test : agree (slice_index (table_in SUBSTITUTED 1)) (entry box 0 1 0 0) ≡ true
unfolding each_byte multiples word_of product product_of_bits times_x
substituted_1_test = refl

pub substituted_1 : (b : ℕ) → b < 256 → column_of_word (slice_index (table_in SUBSTITUTED 1) b) ≡ multiples 0 1 0 0 (s_box b)
substituted_1 b low =
    table_rule (table_in SUBSTITUTED 1) box s_box 0 1 0 0 substituted_1_test s_box_table
    (omega arith) (omega arith) (omega arith) (omega arith) b low

substituted_2_test : agree (slice_index (table_in SUBSTITUTED 2)) (entry box 0 0 1 0) ≡ true
unfolding each_byte multiples word_of product product_of_bits times_x
substituted_2_test = refl

pub substituted_2 : (b : ℕ) → b < 256 → column_of_word (slice_index (table_in SUBSTITUTED 2) b) ≡ multiples 0 0 1 0 (s_box b)
substituted_2 b low =
    table_rule (table_in SUBSTITUTED 2) box s_box 0 0 1 0 substituted_2_test s_box_table
    (omega arith) (omega arith) (omega arith) (omega arith) b low

substituted_3_test : agree (slice_index (table_in SUBSTITUTED 3)) (entry box 0 0 0 1) ≡ true
unfolding each_byte multiples word_of product product_of_bits times_x
substituted_3_test = refl

pub substituted_3 : (b : ℕ) → b < 256 → column_of_word (slice_index (table_in SUBSTITUTED 3) b) ≡ multiples 0 0 0 1 (s_box b)
substituted_3 b low =
    table_rule (table_in SUBSTITUTED 3) box s_box 0 0 0 1 substituted_3_test s_box_table
    (omega arith) (omega arith) (omega arith) (omega arith) b low

inverse_round_0_test : agree (slice_index (table_in INVERSE_ROUND 0)) (entry inverse_s_box 14 9 13 11) ≡ true
unfolding each_byte multiples word_of product product_of_bits times_x
inverse_round_0_test = refl

pub inverse_round_0 : (b : ℕ) → b < 256 → column_of_word (slice_index (table_in INVERSE_ROUND 0) b) ≡ multiples 14 9 13 11 (inverse_s_box b)
inverse_round_0 b low =
    table_rule (table_in INVERSE_ROUND 0) inverse_s_box inverse_s_box 14 9 13 11 inverse_round_0_test (λ b low. refl)
    (omega arith) (omega arith) (omega arith) (omega arith) b low

inverse_round_1_test : agree (slice_index (table_in INVERSE_ROUND 1)) (entry inverse_s_box 11 14 9 13) ≡ true
unfolding each_byte multiples word_of product product_of_bits times_x
inverse_round_1_test = refl

pub inverse_round_1 : (b : ℕ) → b < 256 → column_of_word (slice_index (table_in INVERSE_ROUND 1) b) ≡ multiples 11 14 9 13 (inverse_s_box b)
inverse_round_1 b low =
    table_rule (table_in INVERSE_ROUND 1) inverse_s_box inverse_s_box 11 14 9 13 inverse_round_1_test (λ b low. refl)
    (omega arith) (omega arith) (omega arith) (omega arith) b low

inverse_round_2_test : agree (slice_index (table_in INVERSE_ROUND 2)) (entry inverse_s_box 13 11 14 9) ≡ true
unfolding each_byte multiples word_of product product_of_bits times_x
inverse_round_2_test = refl

pub inverse_round_2 : (b : ℕ) → b < 256 → column_of_word (slice_index (table_in INVERSE_ROUND 2) b) ≡ multiples 13 11 14 9 (inverse_s_box b)
inverse_round_2 b low =
    table_rule (table_in INVERSE_ROUND 2) inverse_s_box inverse_s_box 13 11 14 9 inverse_round_2_test (λ b low. refl)
    (omega arith) (omega arith) (omega arith) (omega arith) b low

inverse_round_3_test : agree (slice_index (table_in INVERSE_ROUND 3)) (entry inverse_s_box 9 13 11 14) ≡ true
unfolding each_byte multiples word_of product product_of_bits times_x
inverse_round_3_test = refl

pub inverse_round_3 : (b : ℕ) → b < 256 → column_of_word (slice_index (table_in INVERSE_ROUND 3) b) ≡ multiples 9 13 11 14 (inverse_s_box b)
inverse_round_3 b low =
    table_rule (table_in INVERSE_ROUND 3) inverse_s_box inverse_s_box 9 13 11 14 inverse_round_3_test (λ b low. refl)
    (omega arith) (omega arith) (omega arith) (omega arith) b low

inverse_substituted_0_test : agree (slice_index (table_in INVERSE_SUBSTITUTED 0)) (entry inverse_s_box 1 0 0 0) ≡ true
unfolding each_byte multiples word_of product product_of_bits times_x
inverse_substituted_0_test = refl

pub inverse_substituted_0 : (b : ℕ) → b < 256 → column_of_word (slice_index (table_in INVERSE_SUBSTITUTED 0) b) ≡ multiples 1 0 0 0 (inverse_s_box b)
inverse_substituted_0 b low =
    table_rule (table_in INVERSE_SUBSTITUTED 0) inverse_s_box inverse_s_box 1 0 0 0 inverse_substituted_0_test (λ b low. refl)
    (omega arith) (omega arith) (omega arith) (omega arith) b low

inverse_substituted_1_test : agree (slice_index (table_in INVERSE_SUBSTITUTED 1)) (entry inverse_s_box 0 1 0 0) ≡ true
unfolding each_byte multiples word_of product product_of_bits times_x
inverse_substituted_1_test = refl

pub inverse_substituted_1 : (b : ℕ) → b < 256 → column_of_word (slice_index (table_in INVERSE_SUBSTITUTED 1) b) ≡ multiples 0 1 0 0 (inverse_s_box b)
inverse_substituted_1 b low =
    table_rule (table_in INVERSE_SUBSTITUTED 1) inverse_s_box inverse_s_box 0 1 0 0 inverse_substituted_1_test (λ b low. refl)
    (omega arith) (omega arith) (omega arith) (omega arith) b low

inverse_substituted_2_test : agree (slice_index (table_in INVERSE_SUBSTITUTED 2)) (entry inverse_s_box 0 0 1 0) ≡ true
unfolding each_byte multiples word_of product product_of_bits times_x
inverse_substituted_2_test = refl

pub inverse_substituted_2 : (b : ℕ) → b < 256 → column_of_word (slice_index (table_in INVERSE_SUBSTITUTED 2) b) ≡ multiples 0 0 1 0 (inverse_s_box b)
inverse_substituted_2 b low =
    table_rule (table_in INVERSE_SUBSTITUTED 2) inverse_s_box inverse_s_box 0 0 1 0 inverse_substituted_2_test (λ b low. refl)
    (omega arith) (omega arith) (omega arith) (omega arith) b low

inverse_substituted_3_test : agree (slice_index (table_in INVERSE_SUBSTITUTED 3)) (entry inverse_s_box 0 0 0 1) ≡ true
unfolding each_byte multiples word_of product product_of_bits times_x
inverse_substituted_3_test = refl

pub inverse_substituted_3 : (b : ℕ) → b < 256 → column_of_word (slice_index (table_in INVERSE_SUBSTITUTED 3) b) ≡ multiples 0 0 0 1 (inverse_s_box b)
inverse_substituted_3 b low =
    table_rule (table_in INVERSE_SUBSTITUTED 3) inverse_s_box inverse_s_box 0 0 0 1 inverse_substituted_3_test (λ b low. refl)
    (omega arith) (omega arith) (omega arith) (omega arith) b low

constants_test : agree_to 10 (slice_index ROUND_CONSTANTS) power_of_x ≡ true
unfolding power_of_x times_x
constants_test = refl

pub constants_table : (j : ℕ) → j < 10 → slice_index ROUND_CONSTANTS j ≡ power_of_x j
constants_table j low = agree_below 10 (slice_index ROUND_CONSTANTS) power_of_x constants_test j low
