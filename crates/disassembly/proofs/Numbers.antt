-- Numbers as they are written, read back.
use Rattle.std.proofs.Common.{◌≡◌, ℕ, zero, suc, ◌+◌, ◌*◌, ◌-◌, ◌/◌, ◌%◌, ◌^◌, ◌<◌, ◌≤◌, Bool, true, false, cond, List, [], ◌∷◌, ◌++◌, length, drop, codes, Option, Some, None, refl, sym, ap, ◌∙◌, arith, nat_lt, eqb, ◌&&◌, lt-ltb, ltb-true, ltb-false, le-ltb, le-leb, ne_eqb}
use Rattle.std.specs.Prelude.{decimal, slice_index, ℤ, pos, negsuc}
use Rattle.std.specs.Fmt.{signed_decimal}
use Rattle.std.specs.Char.{digit_value}
use Rattle.std.specs.Str.Parse.{AllDigits, digits_value_after, digits_value}
use Rattle.std.proofs.lemmas.Fmt.{decimal_is_IsNumeral}
use Rattle.hex.specs.Hex.{lower_digits, encode_with}
use Rattle.cloak_model.specs.Report.{hexadecimal}
use Rattle.rv_asm.specs.Words.{◌>>=◌, digit, digits, narrow, value, magnitude, numeral, signed_numeral}
use Rattle.disassembly.proofs.Bytes.{not_zero}

-- ---- decimal digits

at_least : (b : Bool) (k x y : ℕ) → (b ≡ true → k ≤ x) → (b ≡ false → k ≤ y) → k ≤ cond b x y
at_least true k x y first second = first refl
at_least false k x y first second = second refl

-- what stands after `9` is no digit of the base 10
past_nine : (c : ℕ) → 58 ≤ c → 10 ≤ digit_value c
past_nine c high =
    rw (le-ltb c 48 (omega (arith, high)), le-ltb c 58 high)
    (at_least (nat_lt c 65) 10 36 _ (λ t. omega arith) (λ f65.
    let a = ltb-false c 65 f65 in
    at_least (nat_lt c 91) 10 (c - 55) _ (λ t. omega (arith, a)) (λ f91.
    let b = ltb-false c 91 f91 in
    at_least (nat_lt c 97) 10 36 _ (λ t. omega arith) (λ f97.
    let d = ltb-false c 97 f97 in
    at_least (nat_lt c 123) 10 (c - 87) 36 (λ t. omega (arith, d)) (λ f. omega arith)))))

before_zero : (c : ℕ) → c < 48 → digit_value c ≡ 36
before_zero c low = rw (lt-ltb c 48 low) refl

-- a digit of the base 10 is one of `0` to `9`
pub digit_code : (c : ℕ) → digit_value c < 10 → (48 ≤ c) × (c ≤ 57)
digit_code c h = (low (nat_lt c 48) refl, high (nat_lt c 58) refl)
  where
    low : (b : Bool) → nat_lt c 48 ≡ b → 48 ≤ c
    low true is = let e = before_zero c (ltb-true c 48 is) in absurd (omega (arith, h, e))
    low false is = ltb-false c 48 is

    high : (b : Bool) → nat_lt c 58 ≡ b → c ≤ 57
    high true is = let e = ltb-true c 58 is in omega (arith, e)
    high false is = let e = past_nine c (ltb-false c 58 is) in absurd (omega (arith, h, e))

one_digit : (c : ℕ) → digit_value c < 10 → digit 10 c ≡ Some (digit_value c)
unfolding digit
one_digit c h =
    let at = digit_code c h in
    let low = at.0 in
    let high = at.1 in
    rw (le-leb 48 c low, le-leb c 57 high, le-ltb c 48 low, lt-ltb c 58 (omega (arith, high))) refl

all_digits : (n : ℕ) (text : List ℕ) → AllDigits 10 text → digits 10 n text ≡ Some (digits_value_after 10 n text)
all_digits n [] h = refl
all_digits n (c ∷ cs) h =
    let e : 10 * n + digit_value c ≡ n * 10 + digit_value c = omega arith in
    rw (one_digit c h.0, e) (all_digits (n * 10 + digit_value c) cs h.1)

value_read : (text : List ℕ) → 0 < length text → AllDigits 10 text → digits_value 10 text < 2 ^ 32 → value 10 text ≡ Some (digits_value 10 text)
unfolding value
value_read [] some h below = absurd (omega arith)
value_read (c ∷ cs) some h below = rw (not_zero (length (c ∷ cs)) some, all_digits 0 (c ∷ cs) h, lt-ltb _ _ below) refl

and_false : (b : Bool) → (b && false) ≡ false
and_false true = refl
and_false false = refl

magnitude_read : (text : List ℕ) → AllDigits 10 text → magnitude text ≡ value 10 text
unfolding magnitude
magnitude_read [] h = refl
magnitude_read (a ∷ []) h = refl
magnitude_read (a ∷ b ∷ bs) h =
    let low = (digit_code b h.1.0).1 in
    let no : eqb b 120 ≡ false = ne_eqb b 120 (λ e. omega (arith, low, e)) in
    rw (no, and_false (eqb a 48)) refl

numeral_read : (text : List ℕ) → 0 < length text → AllDigits 10 text → numeral text ≡ (magnitude text >>= signed_numeral false)
unfolding numeral
numeral_read [] some h = absurd (omega arith)
numeral_read (a ∷ more) some h =
    let low = (digit_code a h.0).0 in
    rw (ne_eqb a 45 (λ e. omega (arith, low, e))) refl

pub decimal_read : (n : ℕ) → n < 2 ^ 32 → magnitude (decimal n) ≡ Some n
decimal_read n below =
    let is = decimal_is_IsNumeral n (omega arith) in
    magnitude_read (decimal n) is.0.1 ∙ (value_read (decimal n) is.0.0 is.0.1 (rw is.1 below) ∙ ap (λ (v : ℕ). Some v) is.1)

pub unsigned_read : (n : ℕ) → n < 2 ^ 32 → numeral (decimal n) ≡ Some (record { negative = false; magnitude = n })
unsigned_read n below =
    let is = decimal_is_IsNumeral n (omega arith) in
    rw (numeral_read (decimal n) is.0.0 is.0.1, decimal_read n below) refl

pub negative_read : (n : ℕ) → n < 2 ^ 32 → numeral (45 ∷ decimal n) ≡ Some (record { negative = true; magnitude = n })
unfolding numeral
negative_read n below = rw (decimal_read n below) refl

-- ---- hexadecimal digits

pub by_digit : (P : ℕ → Type 0) → P 0 → P 1 → P 2 → P 3 → P 4 → P 5 → P 6 → P 7 → P 8 → P 9 → P 10 → P 11 → P 12 → P 13 → P 14 → P 15
    → (d : ℕ) → d < 16 → P d
by_digit P p0 p1 p2 p3 p4 p5 p6 p7 p8 p9 p10 p11 p12 p13 p14 p15 d h = go d h
  where
    go : (d : ℕ) → d < 16 → P d
    go zero h = p0
    go (suc zero) h = p1
    go (suc (suc zero)) h = p2
    go (suc (suc (suc zero))) h = p3
    go (suc (suc (suc (suc zero)))) h = p4
    go (suc (suc (suc (suc (suc zero))))) h = p5
    go (suc (suc (suc (suc (suc (suc zero)))))) h = p6
    go (suc (suc (suc (suc (suc (suc (suc zero))))))) h = p7
    go (suc (suc (suc (suc (suc (suc (suc (suc zero)))))))) h = p8
    go (suc (suc (suc (suc (suc (suc (suc (suc (suc zero))))))))) h = p9
    go (suc (suc (suc (suc (suc (suc (suc (suc (suc (suc zero)))))))))) h = p10
    go (suc (suc (suc (suc (suc (suc (suc (suc (suc (suc (suc zero))))))))))) h = p11
    go (suc (suc (suc (suc (suc (suc (suc (suc (suc (suc (suc (suc zero)))))))))))) h = p12
    go (suc (suc (suc (suc (suc (suc (suc (suc (suc (suc (suc (suc (suc zero))))))))))))) h = p13
    go (suc (suc (suc (suc (suc (suc (suc (suc (suc (suc (suc (suc (suc (suc zero)))))))))))))) h = p14
    go (suc (suc (suc (suc (suc (suc (suc (suc (suc (suc (suc (suc (suc (suc (suc zero))))))))))))))) h = p15
    go (suc (suc (suc (suc (suc (suc (suc (suc (suc (suc (suc (suc (suc (suc (suc (suc d)))))))))))))))) h = absurd (omega arith)

hex_digit : (d : ℕ) → d < 16 → digit 16 (slice_index lower_digits d) ≡ Some d
unfolding digit
hex_digit d h =
    by_digit (λ d. digit 16 (slice_index lower_digits d) ≡ Some d) refl refl refl refl refl refl refl refl refl refl refl refl refl refl refl refl d h

-- the digits of a word
pub hexadecimal_read : (w : ℕ) → w < 2 ^ 32 → value 16 (hexadecimal w) ≡ Some w
unfolding value encode_with
hexadecimal_read w below =
    let e : 16 * (16 * (16 * (16 * (16 * (16 * (16 * (16 * 0 + w / 16777216 % 256 / 16) + w / 16777216 % 256 % 16) + w / 65536 % 256 / 16)
    + w / 65536 % 256 % 16) + w / 256 % 256 / 16) + w / 256 % 256 % 16) + w % 256 / 16) + w % 256 % 16 ≡ w = omega arith in
    rw (
      hex_digit (w / 16777216 % 256 / 16) (omega arith),
      hex_digit (w / 16777216 % 256 % 16) (omega arith),
      hex_digit (w / 65536 % 256 / 16) (omega arith),
      hex_digit (w / 65536 % 256 % 16) (omega arith),
      hex_digit (w / 256 % 256 / 16) (omega arith),
      hex_digit (w / 256 % 256 % 16) (omega arith),
      hex_digit (w % 256 / 16) (omega arith),
      hex_digit (w % 256 % 16) (omega arith),
      e,
      lt-ltb w (2 ^ 32) below,
    ) refl

-- the last five, and the last three
pub five_read : (w : ℕ) → w < 2 ^ 20 → value 16 (drop 3 (hexadecimal w)) ≡ Some w
unfolding value encode_with
five_read w below =
    let e : 16 * (16 * (16 * (16 * (16 * 0 + w / 65536 % 256 % 16) + w / 256 % 256 / 16) + w / 256 % 256 % 16) + w % 256 / 16) + w % 256 % 16 ≡ w =
    omega arith in
    rw (
      hex_digit (w / 65536 % 256 % 16) (omega arith),
      hex_digit (w / 256 % 256 / 16) (omega arith),
      hex_digit (w / 256 % 256 % 16) (omega arith),
      hex_digit (w % 256 / 16) (omega arith),
      hex_digit (w % 256 % 16) (omega arith),
      e,
      lt-ltb w (2 ^ 32) (omega arith),
    ) refl

pub three_read : (w : ℕ) → w < 2 ^ 12 → value 16 (drop 5 (hexadecimal w)) ≡ Some w
unfolding value encode_with
three_read w below =
    let e : 16 * (16 * (16 * 0 + w / 256 % 256 % 16) + w % 256 / 16) + w % 256 % 16 ≡ w = omega arith in
    rw (
      hex_digit (w / 256 % 256 % 16) (omega arith),
      hex_digit (w % 256 / 16) (omega arith),
      hex_digit (w % 256 % 16) (omega arith),
      e,
      lt-ltb w (2 ^ 32) (omega arith),
    ) refl

-- a number after `0x`
pub prefixed_read : (digits : List ℕ) (n : ℕ) → value 16 digits ≡ Some n →
    numeral (codes "0x" ++ digits) ≡ Some (record { negative = false; magnitude = n })
unfolding numeral magnitude
prefixed_read digits n h = rw h refl
