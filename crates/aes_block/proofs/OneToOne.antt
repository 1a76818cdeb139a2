-- No step of a round takes two blocks to one.
use Rattle.std.proofs.Common.{◌≡◌, ℕ, List, length, sym, ◌∙◌, ap, arith}
use Rattle.std.specs.Prelude.{slice_index}
use Rattle.aes_block.specs.Bytes.{IsBytes}
use Rattle.aes_block.specs.SBox.{s_box}
use Rattle.aes_block.specs.State.{from_places, from_columns, column_of}
use Rattle.aes_block.specs.State.{sub_bytes, shift_rows, mix_columns, block_sum}
use Rattle.aes_block.proofs.MixInverse.{unmixed, unmixed-mixed}
use Rattle.aes_block.proofs.WordSums.{xor_twice}
use Rattle.aes_block.proofs.TableRules.{inverse_s_box, inverse_s_box-s_box}
use Rattle.aes_block.proofs.Blocks.{spelled, columns_spelled, block_byte, slice_index-from_places, from_places-same}
use Rattle.aes_block.proofs.Blocks.{column_of-from_columns_0, column_of-from_columns_1}
use Rattle.aes_block.proofs.Blocks.{column_of-from_columns_2, column_of-from_columns_3}
use Rattle.aes_block.proofs.Blocks.{IsByteColumn-column_of}

pub from_places-spelled : (s : List ℕ) → length s ≡ 16 → from_places (λ i. slice_index s i) ≡ s
unfolding from_places
from_places-spelled s long = spelled s long

unsubstituted : (s : List ℕ) → IsBytes 16 s → from_places (λ i. inverse_s_box (slice_index (sub_bytes s) i)) ≡ s
unfolding sub_bytes
unsubstituted s b =
    from_places-same _ (λ i. slice_index s i)
    (λ i low.
    ap inverse_s_box (slice_index-from_places (λ i. s_box (slice_index s i)) i low)
    ∙ inverse_s_box-s_box (slice_index s i) (block_byte s b i low))
    ∙ from_places-spelled s b.long

pub sub_bytes-one_to_one : (s t : List ℕ) → IsBytes 16 s → IsBytes 16 t → sub_bytes s ≡ sub_bytes t → s ≡ t
sub_bytes-one_to_one s t b c e =
    sym (unsubstituted s b)
    ∙ ap (λ (x : List ℕ). from_places (λ i. inverse_s_box (slice_index x i))) e
    ∙ unsubstituted t c

-- a row that has moved four times stands where it was
shift_rows-four : (s : List ℕ) → length s ≡ 16 → shift_rows (shift_rows (shift_rows (shift_rows s))) ≡ s
unfolding shift_rows from_places
shift_rows-four s long = spelled s long

pub shift_rows-one_to_one : (s t : List ℕ) → length s ≡ 16 → length t ≡ 16 → shift_rows s ≡ shift_rows t → s ≡ t
shift_rows-one_to_one s t p q e =
    sym (shift_rows-four s p)
    ∙ ap (λ (x : List ℕ). shift_rows (shift_rows (shift_rows x))) e
    ∙ shift_rows-four t q

-- what undoes `mixed`, on each column
unfoldable unmix_columns : List ℕ → List ℕ
unmix_columns s =
    from_columns (unmixed (column_of s 0)) (unmixed (column_of s 1)) (unmixed (column_of s 2)) (unmixed (column_of s 3))

unmix_columns-mix_columns : (s : List ℕ) → IsBytes 16 s → unmix_columns (mix_columns s) ≡ s
unfolding unmix_columns mix_columns
unmix_columns-mix_columns s b =
    rw (
      column_of-from_columns_0,
      column_of-from_columns_1,
      column_of-from_columns_2,
      column_of-from_columns_3,
      unmixed-mixed (column_of s 0) (IsByteColumn-column_of s b 0 (omega arith)),
      unmixed-mixed (column_of s 1) (IsByteColumn-column_of s b 1 (omega arith)),
      unmixed-mixed (column_of s 2) (IsByteColumn-column_of s b 2 (omega arith)),
      unmixed-mixed (column_of s 3) (IsByteColumn-column_of s b 3 (omega arith)),
    )
    (columns_spelled s b.long)

pub mix_columns-one_to_one : (s t : List ℕ) → IsBytes 16 s → IsBytes 16 t → mix_columns s ≡ mix_columns t → s ≡ t
mix_columns-one_to_one s t b c e =
    sym (unmix_columns-mix_columns s b) ∙ ap unmix_columns e ∙ unmix_columns-mix_columns t c

pub block_sum-block_sum : (s t : List ℕ) → length s ≡ 16 → block_sum (block_sum s t) t ≡ s
unfolding block_sum from_places
block_sum-block_sum s t h = simp xor_twice (spelled s h)

pub block_sum-one_to_one : (s t k : List ℕ) → length s ≡ 16 → length t ≡ 16 → block_sum s k ≡ block_sum t k → s ≡ t
block_sum-one_to_one s t k p q e =
    sym (block_sum-block_sum s k p) ∙ ap (λ (x : List ℕ). block_sum x k) e ∙ block_sum-block_sum t k q
