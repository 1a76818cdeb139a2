-- What undoes `mixed` (FIPS 197, 5.3.3).
use Rattle.std.proofs.Common.{◌≡◌, ◌<◌, ℕ, Bool, true, refl, ◌∙◌}
use Rattle.std.specs.Prelude.{bit_xor}
use lib.Bits.{xor_zero_r}
use Rattle.aes_block.specs.Bytes.{each_byte}
use Rattle.aes_block.specs.Field.{product, product_of_bits, times_x}
use Rattle.aes_block.specs.Column.{Column, mixed, circulant_times, row_times, sum_of_four}
use Rattle.aes_block.proofs.EachByte.{agree, agree_at}
use Rattle.aes_block.proofs.Linear.{product-sum, sum_of_four-turned}

-- row i j k l times the circulant's column for an element: the column is s t u v from the top
abbrev pub entry : ℕ → ℕ → ℕ → ℕ → ℕ → ℕ → ℕ → ℕ → ℕ → ℕ
entry i j k l s t u v a =
    sum_of_four (product i (product s a)) (product j (product t a)) (product k (product u a)) (product l (product v a))

-- that entry is w times the element, at each element
abbrev pub entry_test : ℕ → ℕ → ℕ → ℕ → ℕ → ℕ → ℕ → ℕ → ℕ → Bool
entry_test i j k l s t u v w = agree (entry i j k l s t u v) (product w)

entry_is : (i j k l s t u v w : ℕ) → entry_test i j k l s t u v w ≡ true → (a : ℕ) → a < 256 →
    entry i j k l s t u v a ≡ product w a
entry_is i j k l s t u v w h a low = agree_at (entry i j k l s t u v) (product w) h a low

-- a column of bytes
pub record IsByteColumn (x : Column) : Type 0 where
  pub first : x.first < 256
  pub second : x.second < 256
  pub third : x.third < 256
  pub fourth : x.fourth < 256

row_of : (i j k l s t u v : ℕ) (x : Column) →
    row_times i j k l (circulant_times s t u v x)
    ≡ sum_of_four (entry i j k l s v u t x.first) (entry i j k l t s v u x.second)
    (entry i j k l u t s v x.third) (entry i j k l v u t s x.fourth)
unfolding row_times circulant_times
row_of i j k l s t u v x =
    let a : ℕ = x.first in
    let b : ℕ = x.second in
    let c : ℕ = x.third in
    let d : ℕ = x.fourth in
    rw (
      product-sum i (product s a) (product t b) (product u c) (product v d),
      product-sum j (product v a) (product s b) (product t c) (product u d),
      product-sum k (product u a) (product v b) (product s c) (product t d),
      product-sum l (product t a) (product u b) (product v c) (product s d),
    )
    (sum_of_four-turned _ _ _ _ _ _ _ _ _ _ _ _ _ _ _ _)

row_law : (i j k l s t u v w₁ w₂ w₃ w₄ : ℕ) → entry_test i j k l s v u t w₁ ≡ true →
    entry_test i j k l t s v u w₂ ≡ true → entry_test i j k l u t s v w₃ ≡ true → entry_test i j k l v u t s w₄ ≡ true →
    (x : Column) → IsByteColumn x → row_times i j k l (circulant_times s t u v x) ≡ row_times w₁ w₂ w₃ w₄ x
unfolding row_times
row_law i j k l s t u v w₁ w₂ w₃ w₄ h₁ h₂ h₃ h₄ x b =
    row_of i j k l s t u v x
    ∙ rw (
      entry_is i j k l s v u t w₁ h₁ x.first b.first,
      entry_is i j k l t s v u w₂ h₂ x.second b.second,
      entry_is i j k l u t s v w₃ h₃ x.third b.third,
      entry_is i j k l v u t s w₄ h₄ x.fourth b.fourth,
    )
    refl

one_test : agree (product 1) (λ a. a) ≡ true
unfolding product product_of_bits times_x each_byte
one_test = refl

zero_test : agree (product 0) (λ a. 0) ≡ true
unfolding product product_of_bits times_x each_byte
zero_test = refl

pub product-one : (a : ℕ) → a < 256 → product 1 a ≡ a
product-one a low = agree_at (product 1) (λ a. a) one_test a low

pub product-zero : (a : ℕ) → a < 256 → product 0 a ≡ 0
product-zero a low = agree_at (product 0) (λ a. 0) zero_test a low

pub column_from : (y x : Column) → y.first ≡ x.first → y.second ≡ x.second → y.third ≡ x.third →
    y.fourth ≡ x.fourth → y ≡ x
column_from y x p q r s = λ i. record { first = p i; second = q i; third = r i; fourth = s i }

at_first : (x : Column) → IsByteColumn x → row_times 1 0 0 0 x ≡ x.first
unfolding row_times sum_of_four
at_first x b =
    rw (
      product-one x.first b.first,
      product-zero x.second b.second,
      product-zero x.third b.third,
      product-zero x.fourth b.fourth,
    )
    (xor_zero_r (bit_xor x.first 0) ∙ xor_zero_r x.first)

at_second : (x : Column) → IsByteColumn x → row_times 0 1 0 0 x ≡ x.second
unfolding row_times sum_of_four
at_second x b =
    rw (
      product-zero x.first b.first,
      product-one x.second b.second,
      product-zero x.third b.third,
      product-zero x.fourth b.fourth,
    )
    (xor_zero_r x.second)

at_third : (x : Column) → IsByteColumn x → row_times 0 0 1 0 x ≡ x.third
unfolding row_times sum_of_four
at_third x b =
    rw (
      product-zero x.first b.first,
      product-zero x.second b.second,
      product-one x.third b.third,
      product-zero x.fourth b.fourth,
    )
    (xor_zero_r x.third)

at_fourth : (x : Column) → IsByteColumn x → row_times 0 0 0 1 x ≡ x.fourth
unfolding row_times sum_of_four
at_fourth x b =
    rw (
      product-zero x.first b.first,
      product-zero x.second b.second,
      product-zero x.third b.third,
      product-one x.fourth b.fourth,
    )
    refl

pub circulant_times-one : (x : Column) → IsByteColumn x → circulant_times 1 0 0 0 x ≡ x
unfolding circulant_times
circulant_times-one x b = column_from _ x (at_first x b) (at_second x b) (at_third x b) (at_fourth x b)

-- the circulant that undoes `mixed`
unfoldable pub unmixed : Column → Column
unmixed x = circulant_times 14 11 13 9 x

unmixed-mixed_first : (x : Column) → IsByteColumn x → row_times 14 11 13 9 (circulant_times 2 3 1 1 x) ≡ x.first
unfolding sum_of_four product product_of_bits times_x each_byte
unmixed-mixed_first x b = row_law 14 11 13 9 2 3 1 1 1 0 0 0 refl refl refl refl x b ∙ at_first x b

unmixed-mixed_second : (x : Column) → IsByteColumn x → row_times 9 14 11 13 (circulant_times 2 3 1 1 x) ≡ x.second
unfolding sum_of_four product product_of_bits times_x each_byte
unmixed-mixed_second x b = row_law 9 14 11 13 2 3 1 1 0 1 0 0 refl refl refl refl x b ∙ at_second x b

unmixed-mixed_third : (x : Column) → IsByteColumn x → row_times 13 9 14 11 (circulant_times 2 3 1 1 x) ≡ x.third
unfolding sum_of_four product product_of_bits times_x each_byte
unmixed-mixed_third x b = row_law 13 9 14 11 2 3 1 1 0 0 1 0 refl refl refl refl x b ∙ at_third x b

unmixed-mixed_fourth : (x : Column) → IsByteColumn x → row_times 11 13 9 14 (circulant_times 2 3 1 1 x) ≡ x.fourth
unfolding sum_of_four product product_of_bits times_x each_byte
unmixed-mixed_fourth x b = row_law 11 13 9 14 2 3 1 1 0 0 0 1 refl refl refl refl x b ∙ at_fourth x b

mixed-unmixed_first : (x : Column) → IsByteColumn x → row_times 2 3 1 1 (circulant_times 14 11 13 9 x) ≡ x.first
unfolding sum_of_four product product_of_bits times_x each_byte
mixed-unmixed_first x b = row_law 2 3 1 1 14 11 13 9 1 0 0 0 refl refl refl refl x b ∙ at_first x b

mixed-unmixed_second : (x : Column) → IsByteColumn x → row_times 1 2 3 1 (circulant_times 14 11 13 9 x) ≡ x.second
unfolding sum_of_four product product_of_bits times_x each_byte
mixed-unmixed_second x b = row_law 1 2 3 1 14 11 13 9 0 1 0 0 refl refl refl refl x b ∙ at_second x b

mixed-unmixed_third : (x : Column) → IsByteColumn x → row_times 1 1 2 3 (circulant_times 14 11 13 9 x) ≡ x.third
unfolding sum_of_four product product_of_bits times_x each_byte
mixed-unmixed_third x b = row_law 1 1 2 3 14 11 13 9 0 0 1 0 refl refl refl refl x b ∙ at_third x b

mixed-unmixed_fourth : (x : Column) → IsByteColumn x → row_times 3 1 1 2 (circulant_times 14 11 13 9 x) ≡ x.fourth
unfolding sum_of_four product product_of_bits times_x each_byte
mixed-unmixed_fourth x b = row_law 3 1 1 2 14 11 13 9 0 0 0 1 refl refl refl refl x b ∙ at_fourth x b

pub unmixed-mixed : (x : Column) → IsByteColumn x → unmixed (mixed x) ≡ x
unfolding unmixed mixed circulant_times
unmixed-mixed x b =
    column_from _ x (unmixed-mixed_first x b) (unmixed-mixed_second x b) (unmixed-mixed_third x b) (unmixed-mixed_fourth x b)

pub mixed-unmixed : (x : Column) → IsByteColumn x → mixed (unmixed x) ≡ x
unfolding unmixed mixed circulant_times
mixed-unmixed x b =
    column_from _ x (mixed-unmixed_first x b) (mixed-unmixed_second x b) (mixed-unmixed_third x b) (mixed-unmixed_fourth x b)
