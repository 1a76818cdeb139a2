-- Blocks place by place and column by column, and which steps give bytes.
use Rattle.std.proofs.Common.{◌≡◌, ◌<◌, ◌+◌, ◌-◌, ◌*◌, ◌/◌, ◌%◌, ℕ, zero, suc, List, [], ◌∷◌, length, get_or, drop}
use Rattle.std.proofs.Common.{map, refl, sym, ◌∙◌, ap, subst, arith, drop-cons, add-one}
use Rattle.std.specs.Prelude.{bit_xor, slice_index, All}
use Rattle.std.specs.List.{range_with_len}
use Rattle.std.proofs.lemmas.List.{drop_all}
use Rattle.std.proofs.lemmas.List.FromFn.{get_or-map-range_with_len}
use Rattle.std.proofs.lemmas.List.Elements.{All-from_get_or, All-cons, All-append}
use Rattle.std.proofs.lemmas.Nat.{xor_of_8}
use Rattle.aes_block.specs.Bytes.{IsBytes}
use Rattle.aes_block.specs.SBox.{s_box}
use Rattle.aes_block.specs.Column.{Column, column_bytes, column_sum, sum_of_four, row_times, circulant_times, mixed}
use Rattle.aes_block.specs.State.{from_places, from_columns, column_of, sub_bytes, shift_rows, mix_columns, block_sum}
use Rattle.aes_block.specs.RoundKey.{rotated_word, substituted_word, round_constant, next_key, round_key}
use Rattle.aes_block.proofs.Products.{product-lt, power_of_x-lt}
use Rattle.aes_block.proofs.MixInverse.{IsByteColumn}
use Rattle.aes_block.proofs.TableRules.{s_box-lt}

places_from : (s : List ℕ) (k i : ℕ) → i + k ≡ length s → map (λ j. get_or s j 0) (range_with_len i k) ≡ drop i s
places_from s zero i h = sym (drop_all i s (omega (arith, h)))
places_from s (suc k) i h =
    let inside : i < length s = omega (arith, h) in
    ap (λ (l : List ℕ). get_or s i 0 ∷ l) (places_from s k (i + 1) (omega (arith, h)))
    ∙ rw (add-one i) (sym (drop-cons s i 0 inside))

-- a block is the list of its places
pub spelled : (s : List ℕ) → length s ≡ 16 → map (λ j. get_or s j 0) (range_with_len 0 16) ≡ s
spelled s h = places_from s 16 0 (omega (arith, h))

-- and the list of its columns
pub columns_spelled : (s : List ℕ) → length s ≡ 16 →
    from_columns (column_of s 0) (column_of s 1) (column_of s 2) (column_of s 3) ≡ s
unfolding from_columns column_of column_bytes
columns_spelled s h = spelled s h

pub slice_index-from_places : (f : ℕ → ℕ) (i : ℕ) → i < 16 → slice_index (from_places f) i ≡ f i
unfolding from_places
slice_index-from_places f i low = get_or-map-range_with_len f 0 16 i i 0 low (omega arith)

-- blocks with the same byte at each place
pub from_places-same : (f g : ℕ → ℕ) → ((i : ℕ) → i < 16 → f i ≡ g i) → from_places f ≡ from_places g
unfolding from_places
from_places-same f g h =
    rw (
      h 0 (omega arith),
      h 1 (omega arith),
      h 2 (omega arith),
      h 3 (omega arith),
      h 4 (omega arith),
      h 5 (omega arith),
      h 6 (omega arith),
      h 7 (omega arith),
      h 8 (omega arith),
      h 9 (omega arith),
      h 10 (omega arith),
      h 11 (omega arith),
      h 12 (omega arith),
      h 13 (omega arith),
      h 14 (omega arith),
      h 15 (omega arith),
    )
    refl

pub column_of-from_columns_0 : (w x y z : Column) → column_of (from_columns w x y z) 0 ≡ w
unfolding from_columns column_of column_bytes
column_of-from_columns_0 w x y z = refl

pub column_of-from_columns_1 : (w x y z : Column) → column_of (from_columns w x y z) 1 ≡ x
unfolding from_columns column_of column_bytes
column_of-from_columns_1 w x y z = refl

pub column_of-from_columns_2 : (w x y z : Column) → column_of (from_columns w x y z) 2 ≡ y
unfolding from_columns column_of column_bytes
column_of-from_columns_2 w x y z = refl

pub column_of-from_columns_3 : (w x y z : Column) → column_of (from_columns w x y z) 3 ≡ z
unfolding from_columns column_of column_bytes
column_of-from_columns_3 w x y z = refl

-- each byte of a block
pub block_byte : (s : List ℕ) → IsBytes 16 s → (i : ℕ) → i < 16 → get_or s i 0 < 256
block_byte s b i h = let long = b.long in b.bytes i 0 (omega arith)

pub IsBytes-from_places : (f : ℕ → ℕ) → ((i : ℕ) → i < 16 → f i < 256) → IsBytes 16 (from_places f)
unfolding from_places
IsBytes-from_places f h = record {
  long = refl;
  bytes = All-from_get_or (λ b. b < 256) (map f (range_with_len 0 16)) 0 (λ i low.
      subst (λ (x : ℕ). x < 256) (sym (get_or-map-range_with_len f 0 16 i i 0 low (omega arith))) (h i low));
}

-- the columns of blocks
pub IsByteColumn-column_of : (s : List ℕ) → IsBytes 16 s → (c : ℕ) → c < 4 → IsByteColumn (column_of s c)
unfolding column_of
IsByteColumn-column_of s b c h = record {
  first = block_byte s b (4 * c) (omega arith);
  second = block_byte s b (4 * c + 1) (omega arith);
  third = block_byte s b (4 * c + 2) (omega arith);
  fourth = block_byte s b (4 * c + 3) (omega arith);
}

All-column_bytes : (x : Column) → IsByteColumn x → All (λ b. b < 256) (column_bytes x)
unfolding column_bytes
All-column_bytes x p =
    let low : ℕ → Type 0 = λ b. b < 256 in
    All-cons low x.first (x.second ∷ x.third ∷ x.fourth ∷ []) p.first
    (All-cons low x.second (x.third ∷ x.fourth ∷ []) p.second
    (All-cons low x.third (x.fourth ∷ []) p.third
    (All-cons low x.fourth [] p.fourth (λ k d h. absurd (omega arith)))))

length-from_columns : (w x y z : Column) → length (from_columns w x y z) ≡ 16
unfolding from_columns column_bytes
length-from_columns w x y z = refl

pub IsBytes-from_columns : (w x y z : Column) → IsByteColumn w → IsByteColumn x → IsByteColumn y → IsByteColumn z →
    IsBytes 16 (from_columns w x y z)
unfolding from_columns
IsBytes-from_columns w x y z p q r s =
    let low : ℕ → Type 0 = λ b. b < 256 in
    record {
      long = length-from_columns w x y z;
      bytes =
          All-append low (column_bytes w) _ (All-column_bytes w p)
          (All-append low (column_bytes x) _ (All-column_bytes x q)
          (All-append low (column_bytes y) (column_bytes z) (All-column_bytes y r) (All-column_bytes z s)));
    }

row_times-lt : (i j k l : ℕ) (x : Column) → i < 256 → j < 256 → k < 256 → l < 256 → row_times i j k l x < 256
unfolding row_times sum_of_four
row_times-lt i j k l x p q r s =
    xor_of_8 _ _ (xor_of_8 _ _ (product-lt i x.first p) (product-lt j x.second q))
    (xor_of_8 _ _ (product-lt k x.third r) (product-lt l x.fourth s))

pub IsByteColumn-circulant_times : (i j k l : ℕ) (x : Column) → i < 256 → j < 256 → k < 256 → l < 256 →
    IsByteColumn (circulant_times i j k l x)
unfolding circulant_times
IsByteColumn-circulant_times i j k l x p q r s = record {
  first = row_times-lt i j k l x p q r s;
  second = row_times-lt l i j k x s p q r;
  third = row_times-lt k l i j x r s p q;
  fourth = row_times-lt j k l i x q r s p;
}

pub IsByteColumn-mixed : (x : Column) → IsByteColumn (mixed x)
unfolding mixed
IsByteColumn-mixed x = IsByteColumn-circulant_times 2 3 1 1 x (omega arith) (omega arith) (omega arith) (omega arith)

pub IsByteColumn-column_sum : (x y : Column) → IsByteColumn x → IsByteColumn y → IsByteColumn (column_sum x y)
unfolding column_sum
IsByteColumn-column_sum x y p q = record {
  first = xor_of_8 _ _ p.first q.first;
  second = xor_of_8 _ _ p.second q.second;
  third = xor_of_8 _ _ p.third q.third;
  fourth = xor_of_8 _ _ p.fourth q.fourth;
}

-- the steps of a round give blocks
pub IsBytes-sub_bytes : (s : List ℕ) → IsBytes 16 s → IsBytes 16 (sub_bytes s)
unfolding sub_bytes
IsBytes-sub_bytes s b =
    IsBytes-from_places (λ i. s_box (slice_index s i)) (λ i low. s_box-lt (get_or s i 0) (block_byte s b i low))

pub IsBytes-shift_rows : (s : List ℕ) → IsBytes 16 s → IsBytes 16 (shift_rows s)
unfolding shift_rows
IsBytes-shift_rows s b =
    IsBytes-from_places (λ i. slice_index s (i % 4 + 4 * ((i / 4 + i % 4) % 4)))
    (λ i low. block_byte s b (i % 4 + 4 * ((i / 4 + i % 4) % 4)) (omega arith))

pub IsBytes-mix_columns : (s : List ℕ) → IsBytes 16 (mix_columns s)
unfolding mix_columns
IsBytes-mix_columns s =
    IsBytes-from_columns _ _ _ _ (IsByteColumn-mixed (column_of s 0)) (IsByteColumn-mixed (column_of s 1))
    (IsByteColumn-mixed (column_of s 2)) (IsByteColumn-mixed (column_of s 3))

pub IsBytes-block_sum : (s t : List ℕ) → IsBytes 16 s → IsBytes 16 t → IsBytes 16 (block_sum s t)
unfolding block_sum
IsBytes-block_sum s t b c =
    IsBytes-from_places (λ i. bit_xor (slice_index s i) (slice_index t i))
    (λ i low. xor_of_8 _ _ (block_byte s b i low) (block_byte t c i low))

-- so do the round keys
IsByteColumn-key_word : (j : ℕ) (w : Column) → IsByteColumn w →
    IsByteColumn (column_sum (substituted_word (rotated_word w)) (round_constant j))
unfolding substituted_word rotated_word round_constant
IsByteColumn-key_word j w b =
    IsByteColumn-column_sum _ _
    (record {
      first = s_box-lt w.second b.second;
      second = s_box-lt w.third b.third;
      third = s_box-lt w.fourth b.fourth;
      fourth = s_box-lt w.first b.first;
    })
    (record { first = power_of_x-lt (j - 1); second = omega arith; third = omega arith; fourth = omega arith })

IsBytes-next_key : (j : ℕ) (k : List ℕ) → IsBytes 16 k → IsBytes 16 (next_key j k)
unfolding next_key
IsBytes-next_key j k b =
    let last = IsByteColumn-column_of k b 3 (omega arith) in
    let w =
    IsByteColumn-column_sum _ _ (IsByteColumn-column_of k b 0 (omega arith))
    (IsByteColumn-key_word j (column_of k 3) last) in
    let x = IsByteColumn-column_sum _ _ (IsByteColumn-column_of k b 1 (omega arith)) w in
    let y = IsByteColumn-column_sum _ _ (IsByteColumn-column_of k b 2 (omega arith)) x in
    let z = IsByteColumn-column_sum _ _ last y in
    IsBytes-from_columns _ _ _ _ w x y z

pub IsBytes-round_key : (key : List ℕ) → IsBytes 16 key → (j : ℕ) → IsBytes 16 (round_key key j)
unfolding round_key
IsBytes-round_key key b zero = b
IsBytes-round_key key b (suc j) = IsBytes-next_key (j + 1) (round_key key j) (IsBytes-round_key key b j)
