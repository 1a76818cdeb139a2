-- Draws are 16 bytes, and what the kernel is shown of a page is 4096 bytes.
use Rattle.std.proofs.Common.{◌≡◌, ℕ, zero, suc, ◌*◌, ◌<◌, nat_lt, List, [], ◌∷◌, length, take, drop, Option, Some, None, refl, arith}
use Rattle.std.specs.Prelude.{bit_xor, slice_index}
use Rattle.std.specs.Int.{w32, to_le_bytes}
use Rattle.std.specs.List.{AllByRecursion, concat}
use Rattle.std.proofs.lemmas.Bool.{cond_both, ltb-false}
use Rattle.std.proofs.lemmas.List.{length-append, length-take-le}
use Rattle.std.proofs.lemmas.Nat.{xor_of_8}
use Rattle.rand_core.specs.Steps.{word_bytes}
use Rattle.rand_chacha.specs.ChaCha.{ChaCha, next_word}
use Rattle.aes_block.specs.Bytes.{IsBytes}
use Rattle.aes_block.specs.Cipher.{after_rounds, encrypted}
use Rattle.aes_block.specs.State.{block_sum, sub_bytes, shift_rows}
use Rattle.aes_block.specs.RoundKey.{round_key}
use Rattle.aes_block.proofs.Blocks.{IsBytes-from_places, IsBytes-sub_bytes, IsBytes-shift_rows, IsBytes-block_sum, IsBytes-round_key}
use Rattle.aes_block.proofs.Rounds.{IsBytes-after_rounds}
use Rattle.cloak_base.specs.Random.{Random, handed, keyed, next_draw}
use Rattle.cloak_model.specs.Chain.{chained, blocks_of, cbc}
use Rattle.range_law.specs.Writing.{AreBytes, IsStreamOfBytes}
use Rattle.range_law.proofs.Bounds.{all_take, all_drop, byte_at, by_recursion, by_place, cells}
use Rattle.cloak_base.proofs.Lists.{each_append}
use Rattle.aes_block.proofs.Lengths.{length-encrypted}

-- Blocks.

pub as_block : (s : List ℕ) → length s ≡ 16 → AreBytes s → IsBytes 16 s
as_block s long all = record { long = long; bytes = by_place (λ b. b < 256) s all }

pub block_bytes : (n : ℕ) (s : List ℕ) → IsBytes n s → AreBytes s
block_bytes n s block = by_recursion (λ b. b < 256) s block.bytes

-- Draws.

pub record DrawFits (draw : List ℕ × Random) : Type 0 where
  pub bytes : IsBytes 16 draw.0
  pub rest : IsStreamOfBytes draw.1

abbrev pub MayDraw : Option (List ℕ × Random) → Type 0
MayDraw None = Unit {0}
MayDraw (Some draw) = DrawFits draw

words_fit : (k : ℕ) (g : ChaCha) → AreBytes (word_bytes (to_le_bytes w32) (next_word 10) k g).0
unfolding word_bytes
words_fit zero g = tt
words_fit (suc k) g = each_append (λ b. b < 256) _ _ (words_fit k g) (cells _)

words_long : (k : ℕ) (g : ChaCha) → length (word_bytes (to_le_bytes w32) (next_word 10) k g).0 ≡ 4 * k
unfolding word_bytes
words_long zero g = refl
words_long (suc k) g =
    let before = word_bytes (to_le_bytes w32) (next_word 10) k g in
    let more : List ℕ = to_le_bytes w32 (next_word 10 before.1).0 in
    let long : length more ≡ 4 = refl in
    let both = length-append before.0 more in
    let first = words_long k g in
    omega (arith, both, first, long)

pub draw_fits : (s : Random) → IsStreamOfBytes s → MayDraw (next_draw s)
unfolding next_draw
draw_fits (handed bytes) all =
    cond_both (nat_lt (length bytes) 16) _ _ MayDraw (λ few. tt) (λ enough. record {
      bytes = as_block _ (length-take-le 16 bytes (ltb-false (length bytes) 16 enough))
          (all_take (λ b. b < 256) 16 bytes all);
      rest = all_drop (λ b. b < 256) 16 bytes all;
    })
draw_fits (keyed g) all = record { bytes = as_block _ (words_long 4 g) (words_fit 4 g); rest = tt }

-- Pages.

encrypted_fits : (key s : List ℕ) → IsBytes 16 key → IsBytes 16 s → IsBytes 16 (encrypted key s)
unfolding encrypted
encrypted_fits key s k b =
    IsBytes-block_sum (shift_rows (sub_bytes (after_rounds key 9 s))) (round_key key 10)
    (IsBytes-shift_rows _ (IsBytes-sub_bytes _ (IsBytes-after_rounds key s k b 9))) (IsBytes-round_key key k 10)

block_sum_fits : (s t : List ℕ) → AreBytes s → AreBytes t → IsBytes 16 (block_sum s t)
unfolding block_sum
block_sum_fits s t a b =
    IsBytes-from_places (λ i. bit_xor (slice_index s i) (slice_index t i))
    (λ i low. xor_of_8 _ _ (byte_at s i a) (byte_at t i b))

blocks_fit : (n : ℕ) (s : List ℕ) → AreBytes s → AllByRecursion AreBytes (blocks_of n s)
unfolding blocks_of
blocks_fit zero s all = tt
blocks_fit (suc n) s all =
    (all_take (λ b. b < 256) 16 s all, blocks_fit n (drop 16 s) (all_drop (λ b. b < 256) 16 s all))

chained_fits : (key iv : List ℕ) (ps : List (List ℕ)) → IsBytes 16 key → AreBytes iv → AllByRecursion AreBytes ps →
    AreBytes (concat (chained key iv ps))
unfolding chained
chained_fits key iv [] k v all = tt
chained_fits key iv (p ∷ ps) k v all =
    let c : List ℕ = encrypted key (block_sum p iv) in
    let here = block_bytes 16 c (encrypted_fits key (block_sum p iv) k (block_sum_fits p iv all.0 v)) in
    each_append (λ b. b < 256) c _ here (chained_fits key c ps k here all.1)

chained_long : (key iv : List ℕ) (n : ℕ) (s : List ℕ) → length (concat (chained key iv (blocks_of n s))) ≡ 16 * n
unfolding chained blocks_of
chained_long key iv zero s = refl
chained_long key iv (suc n) s =
    let c : List ℕ = encrypted key (block_sum (take 16 s) iv) in
    let rest : List ℕ = concat (chained key c (blocks_of n (drop 16 s))) in
    let both = length-append c rest in
    let first = length-encrypted key (block_sum (take 16 s) iv) in
    let others = chained_long key c n (drop 16 s) in
    omega (arith, both, first, others)

pub cbc_long : (key iv page : List ℕ) → length (cbc key iv page) ≡ 4096
unfolding cbc
cbc_long key iv page = chained_long key iv 256 page

pub record SealedFits (page : List ℕ) : Type 0 where
  pub bytes : AreBytes page
  pub long : length page ≡ 4096

pub sealed_fits : (key iv page : List ℕ) → IsBytes 16 key → AreBytes iv → AreBytes page → SealedFits (cbc key iv page)
unfolding cbc
sealed_fits key iv page k v all = record {
  bytes = chained_fits key iv (blocks_of 256 page) k v (blocks_fit 256 page all);
  long = cbc_long key iv page;
}
