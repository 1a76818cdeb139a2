-- Sizes: of a ciphertext, which has 4096 bytes as its page has, and of a record.
use Rattle.std.proofs.Common.{◌≡◌, ◌<◌, ◌≤◌, ℕ, refl, ◌+◌, ◌^◌, List, [], ◌∷◌, ◌++◌, length, drop, take, ◌∙◌, ap, sym, arith, length-append, length-drop}
use Rattle.std.specs.Prelude.{All, nat_lt, true, false, bit_xor, ◌-◌, ◌%◌, if◌then◌else◌}
use Rattle.std.specs.Str.{bytes_eq}
use Rattle.std.specs.Int.{bit_at}
use Rattle.std.specs.Int.{w32, from_le_bytes, to_le_bytes}
use Rattle.std.proofs.lemmas.Nat.{from_le_bytes-to_le_bytes_4, xor_of_32}
use Rattle.std.proofs.lemmas.Nat.Bits.{bit_at_xor, bit_at-lt}
use Rattle.std.proofs.lemmas.Slice.Eq.{bytes_eq-Decides}
use Rattle.std.proofs.lemmas.List.{length-take-le, drop_at}
use Rattle.std.proofs.lemmas.List.Elements.{All-drop}
use Rattle.aes_block.specs.Bytes.{IsBytes}
use Rattle.cloak_model.specs.Bits.{has_bit}
use Rattle.cloak_model.specs.KernelStep.{extended}
use Rattle.cloak_model.specs.Memory.{value_in, with_value_in}
use Rattle.std.specs.List.{flat_map, sum_by, list_all}
use Rattle.std.proofs.lemmas.List.Sums.{AllPass-from_list_all}
use Rattle.std.proofs.lemmas.Bool.{ltb-true, false_from_ne_true}
use Rattle.std.proofs.lemmas.List.Concat.{length-flat_map}
use Rattle.cloak_model.specs.Items.{Item}
use Rattle.cloak_model.specs.Exchange.{item_bytes, record_magic, record_of}
use Rattle.cloak_model.specs.Chain.{cbc}
use Rattle.range_law.proofs.Bounds.{by_place}
use Rattle.range_law.proofs.Ciphers.{block_bytes, cbc_long, sealed_fits}

-- The size of a record: the magic, and each item's.
pub length-record_of : (items : List Item) → length (record_of items) ≡ 8 + sum_by (λ i. length (item_bytes i)) items
length-record_of items =
    rw (length-append record_magic (flat_map item_bytes items), length-flat_map item_bytes items) refl

-- The ciphertext of bytes is bytes.
pub IsBytes-cbc : (key iv page : List ℕ) → IsBytes 16 key → IsBytes 16 iv → IsBytes 4096 page →
    IsBytes 4096 (cbc key iv page)
IsBytes-cbc key iv page k i p = record {
  long = cbc_long key iv page;
  bytes = by_place (λ b. b < 256) (cbc key iv page)
      (sealed_fits key iv page k (block_bytes 16 iv i) (block_bytes 4096 page p)).bytes;
}

-- A page with another word at place 20 is another page.

-- a word that is read is below 2 ^ 32
word_lt : (xs : List ℕ) → 4 ≤ length xs → All (λ b. b < 256) xs → from_le_bytes w32 (take 4 xs ++ []) < 2 ^ 32
word_lt [] h all = absurd (omega arith)
word_lt (a ∷ []) h all = absurd (omega arith)
word_lt (a ∷ (b ∷ [])) h all = absurd (omega arith)
word_lt (a ∷ (b ∷ (c ∷ []))) h all = absurd (omega arith)
word_lt (a ∷ (b ∷ (c ∷ (d ∷ xs)))) h all =
    let first : a < 256 = all 0 0 (omega arith) in
    let second : b < 256 = all 1 0 (omega arith) in
    let third : c < 256 = all 2 0 (omega arith) in
    let fourth : d < 256 = all 3 0 (omega arith) in
    omega arith

value_in-with_value_in : (page : List ℕ) (value : ℕ) → 24 ≤ length page → value < 2 ^ 32 →
    value_in (with_value_in page 20 4 value) 20 4 ≡ value
value_in-with_value_in page value long low =
    rw (drop_at (take 20 page) (take 4 (to_le_bytes w32 value) ++ drop 24 page) 20
    (length-take-le 20 page (omega arith))) (from_le_bytes-to_le_bytes_4 value low)

-- a word as a signed load of four bytes returns it
extended-word : (word : ℕ) → word < 2 ^ 32 → extended true 4 word ≡ word
extended-word word low =
    elim (has_bit word 31) as
    (λ b. (if b then (word + (2 ^ 32 - 2 ^ 32)) % 2 ^ 32 else word) ≡ word) [ true ↦ omega arith | false ↦ refl ]

-- a word with its lowest bit flipped is another one
flipped-other : (word : ℕ) → bit_xor word 1 ≡ word → ⊥
flipped-other word same =
    let bit = bit_at_xor word 1 0 in
    let there = ap (λ (n : ℕ). bit_at n 0) same in
    let low = bit_at-lt word 0 in
    omega arith

changed-differs : (page : List ℕ) (value : ℕ) → 24 ≤ length page → value < 2 ^ 32 → (value ≡ value_in page 20 4 → ⊥) →
    bytes_eq (with_value_in page 20 4 value) page ≡ false
changed-differs page value long low other = false_from_ne_true _ (λ e.
    let same : with_value_in page 20 4 value ≡ page = (bytes_eq-Decides (with_value_in page 20 4 value) page).0 e in
    other (sym (value_in-with_value_in page value long low) ∙ ap (λ (x : List ℕ). value_in x 20 4) same))

-- the word at place 20 of a page as it is loaded, with its lowest bit flipped
abbrev pub flipped_word : List ℕ → ℕ
flipped_word page = bit_xor (extended true 4 (value_in page 20 4)) 1 % 2 ^ 32

word_fits : (page : List ℕ) → IsBytes 4096 page → value_in page 20 4 < 2 ^ 32
word_fits page p =
    let long = p.long in
    let shorter = length-drop 20 page in
    word_lt (drop 20 page) (omega arith) (All-drop (λ b. b < 256) 20 page p.bytes)

mod_small : (n : ℕ) → n < 2 ^ 32 → n % 2 ^ 32 ≡ n
mod_small n low = omega arith

mod_low : (n : ℕ) → n % 2 ^ 32 < 2 ^ 32
mod_low n = omega arith

flipped_word-is : (page : List ℕ) → IsBytes 4096 page → flipped_word page ≡ bit_xor (value_in page 20 4) 1
flipped_word-is page p =
    ap (λ (w : ℕ). bit_xor w 1 % 2 ^ 32) (extended-word (value_in page 20 4) (word_fits page p))
    ∙ mod_small (bit_xor (value_in page 20 4) 1) (xor_of_32 (value_in page 20 4) 1 (word_fits page p) (omega arith))

enough : (page : List ℕ) → IsBytes 4096 page → 24 ≤ length page
enough page p = let long = p.long in omega arith

pub flipped-differs : (page : List ℕ) → IsBytes 4096 page →
    bytes_eq (with_value_in page 20 4 (flipped_word page)) page ≡ false
flipped-differs page p =
    changed-differs page (flipped_word page) (enough page p)
    (mod_low (bit_xor (extended true 4 (value_in page 20 4)) 1))
    (λ same. flipped-other (value_in page 20 4) (sym (flipped_word-is page p) ∙ same))

-- Bytes that are written out.

pub IsBytes-computed : (n : ℕ) (s : List ℕ) → length s ≡ n → list_all (λ b. nat_lt b 256) s ≡ true → IsBytes n s
IsBytes-computed n s long low = record {
  long = long;
  bytes = λ k d h. ltb-true _ _ (AllPass-from_list_all (λ b. nat_lt b 256) s low k d h);
}
