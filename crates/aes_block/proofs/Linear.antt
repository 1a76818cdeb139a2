-- The product is linear in its second factor.
use Rattle.std.proofs.Common.{◌≡◌, ◌<◌, ◌/◌, ◌%◌, ℕ, zero, suc, refl, ap, sym, ◌∙◌, arith, ◌⊎◌, inl, inr, nat_eq}
use Rattle.std.specs.Prelude.{bit_xor, if◌then◌else◌}
use lib.Bits.{xor_assoc, xor_self, xor_zero_r}
use Rattle.std.proofs.lemmas.Nat.{xor_comm, xor_shr, xor_mod}
use Rattle.std.proofs.lemmas.Bool.Decides.{eqb_tells}
use Rattle.aes_block.specs.Field.{product, product_of_bits, times_x}
use Rattle.aes_block.specs.Column.{sum_of_four}

-- the middle two of four change places
pub interchange : (a b c d : ℕ) → bit_xor (bit_xor a b) (bit_xor c d) ≡ bit_xor (bit_xor a c) (bit_xor b d)
interchange a b c d =
    xor_assoc a b (bit_xor c d)
    ∙ ap (λ (x : ℕ). bit_xor a x) (sym (xor_assoc b c d) ∙ ap (λ (x : ℕ). bit_xor x d) (xor_comm b c) ∙ xor_assoc c b d)
    ∙ sym (xor_assoc a c (bit_xor b d))

-- what a bit of the second factor adds to the product
abbrev addend : ℕ → ℕ → ℕ
addend r a = if nat_eq r 1 then a else 0

below_two : (n : ℕ) → n < 2 → (n ≡ 0) ⊎ (n ≡ 1)
below_two n h = elim (eqb_tells n 0) [ inl e ↦ inl e.1 | inr e ↦ inr (let ne = e.1 in omega arith) ]

addend-xor : (a r s : ℕ) → r < 2 → s < 2 → addend (bit_xor r s) a ≡ bit_xor (addend r a) (addend s a)
addend-xor a r s hr hs =
    elim (below_two r hr) [
      | inl e ↦ rw e refl
      | inr e ↦ elim (below_two s hs) [
        | inl f ↦ rw (e, f) (sym (xor_zero_r a))
        | inr f ↦ rw (e, f) (sym (xor_self a))
      ]
    ]

pub product_of_bits-xor : (k a x y : ℕ) →
    product_of_bits k a (bit_xor x y) ≡ bit_xor (product_of_bits k a x) (product_of_bits k a y)
unfolding product_of_bits
product_of_bits-xor zero a x y = refl
product_of_bits-xor (suc k) a x y =
    let r : bit_xor x y % 2 ≡ bit_xor (x % 2) (y % 2) = xor_mod x y 1 in
    let q : bit_xor x y / 2 ≡ bit_xor (x / 2) (y / 2) = xor_shr x y 1 in
    let one = addend-xor a (x % 2) (y % 2) (omega arith) (omega arith) in
    rw (r, q, one, product_of_bits-xor k (times_x a) (x / 2) (y / 2))
    (interchange (addend (x % 2) a) (addend (y % 2) a) (product_of_bits k (times_x a) (x / 2))
    (product_of_bits k (times_x a) (y / 2)))

pub product-xor : (a x y : ℕ) → product a (bit_xor x y) ≡ bit_xor (product a x) (product a y)
unfolding product
product-xor a x y = product_of_bits-xor 8 a x y

pub product-sum : (i a b c d : ℕ) →
    product i (sum_of_four a b c d) ≡ sum_of_four (product i a) (product i b) (product i c) (product i d)
unfolding sum_of_four
product-sum i a b c d =
    product-xor i (bit_xor a b) (bit_xor c d)
    ∙ ap (λ (x : ℕ). bit_xor x (product i (bit_xor c d))) (product-xor i a b)
    ∙ ap (λ (x : ℕ). bit_xor (bit_xor (product i a) (product i b)) x) (product-xor i c d)

-- a sum of sums, by columns
pub sum_of_four-turned : (a b c d e f g h i j k l m n o p : ℕ) →
    sum_of_four (sum_of_four a b c d) (sum_of_four e f g h) (sum_of_four i j k l) (sum_of_four m n o p)
    ≡ sum_of_four (sum_of_four a e i m) (sum_of_four b f j n) (sum_of_four c g k o) (sum_of_four d h l p)
unfolding sum_of_four
sum_of_four-turned a b c d e f g h i j k l m n o p =
    let ab : ℕ = bit_xor a b in
    let cd : ℕ = bit_xor c d in
    let ef : ℕ = bit_xor e f in
    let gh : ℕ = bit_xor g h in
    let ij : ℕ = bit_xor i j in
    let kl : ℕ = bit_xor k l in
    let mn : ℕ = bit_xor m n in
    let op : ℕ = bit_xor o p in
    rw (interchange ab cd ef gh, interchange ij kl mn op)
    (rw (interchange (bit_xor ab ef) (bit_xor cd gh) (bit_xor ij mn) (bit_xor kl op))
    (rw (interchange a b e f, interchange c d g h, interchange i j m n, interchange k l o p)
    (rw (
      interchange (bit_xor a e) (bit_xor b f) (bit_xor i m) (bit_xor j n),
      interchange (bit_xor c g) (bit_xor d h) (bit_xor k o) (bit_xor l p),
    )
    refl)))

-- the last of four comes first
pub sum_of_four-rotated : (a b c d : ℕ) → sum_of_four b c d a ≡ sum_of_four a b c d
unfolding sum_of_four
sum_of_four-rotated a b c d =
    ap (λ (x : ℕ). bit_xor (bit_xor b c) x) (xor_comm d a)
    ∙ interchange b c a d
    ∙ ap (λ (x : ℕ). bit_xor x (bit_xor c d)) (xor_comm b a)
