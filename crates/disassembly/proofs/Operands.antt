-- Operands as they are written, read back.
use Rattle.std.proofs.Common.{◌≡◌, ℕ, zero, suc, ◌+◌, ◌-◌, ◌*◌, ◌/◌, ◌%◌, ◌^◌, ◌<◌, ◌≤◌, Bool, true, false, cond, not, ◌&&◌, eqb, leb, nat_lt, List, [], ◌∷◌, ◌++◌, length, drop, codes, Option, Some, None, refl, sym, ap, ◌∙◌, arith, lt-ltb, le-ltb, le-leb, leb-true, ltb-true, ltb-false, ne_eqb, length-append}
use Rattle.std.specs.Prelude.{decimal, slice_index, ℤ, pos, negsuc}
use Rattle.std.specs.Fmt.{signed_decimal}
use Rattle.std.specs.List.{list_all}
use Rattle.std.specs.Str.Parse.{AllDigits}
use Rattle.std.proofs.lemmas.Fmt.{decimal_digit, decimal_step, decimal_is_IsNumeral, decimal_nonempty}
use Rattle.std.proofs.lemmas.List.Folds.{list_all-append}
use Rattle.std.proofs.lemmas.Bool.{and_parts}
use Rattle.hex.specs.Hex.{lower_digits, encode_with}
use Rattle.cloak_model.specs.Report.{hexadecimal}
use Rattle.rv_isa.specs.Range.{FitsSigned}
use Rattle.rv_asm.specs.Words.{◌>>=◌, cut, is_blank, is_digit, is_name, is_name_byte, register_named, numeral, sole_word}
use Rattle.rv_asm.specs.Statements as asm
use Rattle.rv_asm.specs.declared.words.Numeral.{Numeral}
use Rattle.word_text.specs.Operands.{register, last_digits, upper, csr_number, memory, base, label}
use Rattle.disassembly.proofs.Bytes.{all_of, lacks, is_solid, cut_at, sole, sole_after}
use Rattle.disassembly.proofs.Numbers.{digit_code, by_digit, unsigned_read, negative_read, hexadecimal_read, five_read, three_read, prefixed_read}

-- ---- classes of bytes

-- digits, letters, `-` and some that do not occur
abbrev pub is_word_byte : ℕ → Bool
is_word_byte b = leb 45 b && leb b 122

-- parentheses, too
abbrev pub is_operand_byte : ℕ → Bool
is_operand_byte b = (leb 40 b && leb b 122) && not (eqb b 44)

between : (low b : ℕ) → (leb low b && leb b 122) ≡ true → (low ≤ b) × (b ≤ 122)
between low b h = let parts = and_parts _ _ h in (leb-true _ _ parts.0, leb-true _ _ parts.1)

differs : (low b c : ℕ) → (leb low b && leb b 122) ≡ true → c < low → not (eqb b c) ≡ true
differs low b c h below = let at = (between low b h).0 in rw (ne_eqb b c (λ e. omega (arith, at, e, below))) refl

pub word_in_operand : (b : ℕ) → is_word_byte b ≡ true → is_operand_byte b ≡ true
word_in_operand b h =
    let at = between 45 b h in
    let low = at.0 in
    rw (le-leb 40 b (omega (arith, low)), le-leb b 122 at.1, differs 45 b 44 h (omega arith)) refl

pub operand_lacks_comma : (b : ℕ) → is_operand_byte b ≡ true → not (eqb b 44) ≡ true
operand_lacks_comma b h = (and_parts _ _ h).1

pub operand_lacks_hash : (b : ℕ) → is_operand_byte b ≡ true → not (eqb b 35) ≡ true
operand_lacks_hash b h = differs 40 b 35 (and_parts _ _ h).0 (omega arith)

pub operand_is_solid : (b : ℕ) → is_operand_byte b ≡ true → not (is_blank b) ≡ true
operand_is_solid b h =
    let at = (between 40 b (and_parts _ _ h).0).0 in
    rw (ne_eqb b 32 (λ e. omega (arith, at, e)), ne_eqb b 9 (λ e. omega (arith, at, e))) refl

word_lacks_open : (b : ℕ) → is_word_byte b ≡ true → not (eqb b 40) ≡ true
word_lacks_open b h = differs 45 b 40 h (omega arith)

word_lacks_close : (b : ℕ) → is_word_byte b ≡ true → not (eqb b 41) ≡ true
word_lacks_close b h = differs 45 b 41 h (omega arith)

abbrev pub are_word : List ℕ → Bool
are_word text = list_all is_word_byte text

abbrev pub are_operand : List ℕ → Bool
are_operand text = list_all is_operand_byte text

pub words_are_operand : (text : List ℕ) → are_word text ≡ true → are_operand text ≡ true
words_are_operand text h = all_of is_word_byte is_operand_byte word_in_operand text h

pub joined : (p : ℕ → Bool) (a b : List ℕ) → list_all p a ≡ true → list_all p b ≡ true → list_all p (a ++ b) ≡ true
joined p a b h g = rw (list_all-append p a b, h, g) refl

-- ---- registers

-- one digit, or two
by_tens : (P : List ℕ → Type 0) (n : ℕ) → n < 32 → (n < 10 → P ((48 + n) ∷ [])) → (10 ≤ n → P ((48 + n / 10) ∷ (48 + n % 10) ∷ [])) →
    P (decimal n)
by_tens P n below one two = go (nat_lt n 10) refl
  where
    go : (b : Bool) → nat_lt n 10 ≡ b → P (decimal n)
    go true is = let low : n < 10 = ltb-true n 10 is in rw (decimal_digit n low) (one low)
    go false is =
        let high : 10 ≤ n = ltb-false n 10 is in
        rw (decimal_step n high (omega arith), decimal_digit (n / 10) (omega arith)) (two high)

pub register_reads : (n : ℕ) → n < 32 → register_named (register n) ≡ Some n
unfolding register_named
register_reads n below =
    by_tens (λ text. register_named (120 ∷ text) ≡ Some n) n below
    (λ low.
    let digit : is_digit (48 + n) ≡ true = rw (le-leb 48 (48 + n) (omega arith), le-leb (48 + n) 57 (omega arith)) refl in
    let same : 48 + n - 48 ≡ n = omega arith in
    rw (digit, same) refl)
    (λ high.
    let tens : leb 49 (48 + n / 10) ≡ true = le-leb _ _ (omega arith) in
    let few : leb (48 + n / 10) 51 ≡ true = le-leb _ _ (omega arith) in
    let ones : is_digit (48 + n % 10) ≡ true = rw (le-leb 48 (48 + n % 10) (omega arith), le-leb (48 + n % 10) 57 (omega arith)) refl in
    let same : 10 * (48 + n / 10 - 48) + (48 + n % 10 - 48) ≡ n = omega arith in
    rw (tens, few, ones, same, lt-ltb n 32 below) refl)

digits_are_word : (text : List ℕ) → AllDigits 10 text → are_word text ≡ true
digits_are_word [] h = refl
digits_are_word (c ∷ cs) h =
    let low = (digit_code c h.0).0 in
    let high = (digit_code c h.0).1 in
    rw (le-leb 45 c (omega (arith, low)), le-leb c 122 (omega (arith, high)), digits_are_word cs h.1) refl

pub decimal_is_word : (n : ℕ) → n < 2 ^ 64 → are_word (decimal n) ≡ true
decimal_is_word n below = digits_are_word (decimal n) (decimal_is_IsNumeral n below).0.1

pub register_is_word : (n : ℕ) → n < 32 → are_word (register n) ≡ true
register_is_word n below = rw (decimal_is_word n (omega arith)) refl

pub signed_is_word : (imm : ℤ) → FitsSigned 12 imm → are_word (signed_decimal imm) ≡ true
signed_is_word (pos n) fits = decimal_is_word n (omega (arith, fits))
signed_is_word (negsuc n) fits = rw (decimal_is_word (suc n) (omega (arith, fits))) refl

pub signed_is_some : (imm : ℤ) → FitsSigned 12 imm → 0 < length (signed_decimal imm)
signed_is_some (pos n) fits = decimal_nonempty n (omega (arith, fits))
signed_is_some (negsuc n) fits = omega arith

-- ---- hexadecimal digits

pub hexadecimal_all : (p : ℕ → Bool) → ((d : ℕ) → d < 16 → p (slice_index lower_digits d) ≡ true) → (w : ℕ) →
    list_all p (hexadecimal w) ≡ true
unfolding encode_with
hexadecimal_all p each w =
    rw (
      each (w / 16777216 % 256 / 16) (omega arith),
      each (w / 16777216 % 256 % 16) (omega arith),
      each (w / 65536 % 256 / 16) (omega arith),
      each (w / 65536 % 256 % 16) (omega arith),
      each (w / 256 % 256 / 16) (omega arith),
      each (w / 256 % 256 % 16) (omega arith),
      each (w % 256 / 16) (omega arith),
      each (w % 256 % 16) (omega arith),
    ) refl

hex_digit_is_word : (d : ℕ) → d < 16 → is_word_byte (slice_index lower_digits d) ≡ true
hex_digit_is_word d h =
    by_digit (λ d. is_word_byte (slice_index lower_digits d) ≡ true) refl refl refl refl refl refl refl refl refl refl refl refl refl refl refl refl d h

hex_digit_is_name : (d : ℕ) → d < 16 → is_name_byte (slice_index lower_digits d) ≡ true
hex_digit_is_name d h =
    by_digit (λ d. is_name_byte (slice_index lower_digits d) ≡ true) refl refl refl refl refl refl refl refl refl refl refl refl refl refl refl refl d h

pub hexadecimal_is_word : (w : ℕ) → are_word (hexadecimal w) ≡ true
hexadecimal_is_word w = hexadecimal_all is_word_byte hex_digit_is_word w

dropped : (p : ℕ → Bool) (n : ℕ) (text : List ℕ) → list_all p text ≡ true → list_all p (drop n text) ≡ true
dropped p zero text h = h
dropped p (suc n) [] h = refl
dropped p (suc n) (b ∷ bs) h = dropped p n bs (and_parts _ _ h).1

pub upper_is_word : (imm : ℕ) → are_word (upper imm) ≡ true
upper_is_word imm = rw (dropped is_word_byte 3 (hexadecimal (imm / 4096)) (hexadecimal_is_word (imm / 4096))) refl

pub csr_is_word : (csr : ℕ) → are_word (csr_number csr) ≡ true
csr_is_word csr = rw (dropped is_word_byte 5 (hexadecimal csr) (hexadecimal_is_word csr)) refl

pub label_is_word : (at : ℕ) → are_word (label at) ≡ true
label_is_word at = rw (hexadecimal_is_word at) refl

pub label_is_name : (at : ℕ) → is_name (label at) ≡ true
unfolding is_name
label_is_name at = rw (hexadecimal_all is_name_byte hex_digit_is_name at) refl

-- ---- each as an operand

pub register_is_operand : (n : ℕ) → n < 32 → are_operand (register n) ≡ true
register_is_operand n below = words_are_operand (register n) (register_is_word n below)

pub signed_is_operand : (imm : ℤ) → FitsSigned 12 imm → are_operand (signed_decimal imm) ≡ true
signed_is_operand imm fits = words_are_operand (signed_decimal imm) (signed_is_word imm fits)

pub small_is_operand : (n : ℕ) → n < 32 → are_operand (decimal n) ≡ true
small_is_operand n below = words_are_operand (decimal n) (decimal_is_word n (omega (arith, below)))

pub upper_is_operand : (imm : ℕ) → are_operand (upper imm) ≡ true
upper_is_operand imm = words_are_operand (upper imm) (upper_is_word imm)

pub csr_is_operand : (csr : ℕ) → are_operand (csr_number csr) ≡ true
csr_is_operand csr = words_are_operand (csr_number csr) (csr_is_word csr)

pub label_is_operand : (at : ℕ) → are_operand (label at) ≡ true
label_is_operand at = words_are_operand (label at) (label_is_word at)

-- ---- memory

pub base_is_operand : (rs1 : ℕ) → rs1 < 32 → are_operand (base rs1) ≡ true
base_is_operand rs1 below = joined is_operand_byte (register rs1) (41 ∷ []) (register_is_operand rs1 below) refl

pub memory_is_operand : (imm : ℤ) (rs1 : ℕ) → FitsSigned 12 imm → rs1 < 32 → are_operand (memory imm rs1) ≡ true
memory_is_operand imm rs1 fits below =
    joined is_operand_byte (signed_decimal imm) (base rs1) (words_are_operand (signed_decimal imm) (signed_is_word imm fits)) (base_is_operand rs1 below)

-- ---- operands

solid : (text : List ℕ) → are_operand text ≡ true → is_solid text ≡ true
solid text h = all_of is_operand_byte (λ b. not (is_blank b)) operand_is_solid text h

pub register_operand : (n : ℕ) → n < 32 → asm.register_operand (register n) ≡ Some n
unfolding asm.register_operand
register_operand n below =
    rw (sole (register n) (omega arith) (solid (register n) (register_is_operand n below))) (register_reads n below)

pub register_after : (n : ℕ) → n < 32 → asm.register_operand (32 ∷ register n) ≡ Some n
unfolding asm.register_operand
register_after n below =
    rw (sole_after (register n) (omega arith) (solid (register n) (register_is_operand n below))) (register_reads n below)

number_after : (text : List ℕ) → 0 < length text → are_word text ≡ true → asm.number_operand (32 ∷ text) ≡ numeral text
unfolding asm.number_operand
number_after text some h = rw (sole_after text some (solid text (words_are_operand text h))) refl

number_alone : (text : List ℕ) → 0 < length text → are_word text ≡ true → asm.number_operand text ≡ numeral text
unfolding asm.number_operand
number_alone text some h = rw (sole text some (solid text (words_are_operand text h))) refl

-- a signed number as it is written
abbrev numeral_of : ℤ → Numeral
numeral_of (pos n) = record { negative = false; magnitude = n }
numeral_of (negsuc n) = record { negative = true; magnitude = suc n }

signed_reads : (imm : ℤ) → FitsSigned 12 imm → numeral (signed_decimal imm) ≡ Some (numeral_of imm)
signed_reads (pos n) fits = unsigned_read n (omega (arith, fits))
signed_reads (negsuc n) fits = negative_read (suc n) (omega (arith, fits))

immediate_is : (imm : ℤ) → FitsSigned 12 imm → asm.immediate (numeral_of imm) ≡ Some imm
unfolding asm.immediate
immediate_is (pos n) fits = rw (lt-ltb n 2048 fits) refl
immediate_is (negsuc n) fits = rw (le-leb (suc n) 2048 fits) refl

pub immediate_after : (imm : ℤ) → FitsSigned 12 imm → asm.immediate_operand (32 ∷ signed_decimal imm) ≡ Some imm
unfolding asm.immediate_operand
immediate_after imm fits =
    rw (number_after (signed_decimal imm) (signed_is_some imm fits) (signed_is_word imm fits), signed_reads imm fits) (immediate_is imm fits)

unsigned_is : (limit n : ℕ) → n < limit → asm.unsigned limit (record { negative = false; magnitude = n }) ≡ Some n
unfolding asm.unsigned
unsigned_is limit n below = rw (lt-ltb n limit below) refl

pub small_after : (n : ℕ) → n < 32 → asm.unsigned_operand 32 (32 ∷ decimal n) ≡ Some n
unfolding asm.unsigned_operand
small_after n below =
    rw (number_after (decimal n) (decimal_nonempty n (omega arith)) (decimal_is_word n (omega arith)), unsigned_read n (omega arith))
    (unsigned_is 32 n below)

pub upper_after : (imm : ℕ) → imm < 2 ^ 32 → asm.unsigned_operand 0x100000 (32 ∷ upper imm) ≡ Some (imm / 4096)
unfolding asm.unsigned_operand
upper_after imm below =
    rw (
      number_after (upper imm) (omega arith) (upper_is_word imm),
      prefixed_read (last_digits 5 (imm / 4096)) (imm / 4096) (five_read (imm / 4096) (omega arith)),
    )
    (unsigned_is 0x100000 (imm / 4096) (omega arith))

pub csr_after : (csr : ℕ) → csr < 4096 → asm.unsigned_operand 4096 (32 ∷ csr_number csr) ≡ Some csr
unfolding asm.unsigned_operand
csr_after csr below =
    rw (
      number_after (csr_number csr) (omega arith) (csr_is_word csr),
      prefixed_read (last_digits 3 csr) csr (three_read csr below),
    )
    (unsigned_is 4096 csr below)

pub word_alone : (w : ℕ) → w < 2 ^ 32 → asm.modular_operand (codes "0x" ++ hexadecimal w) ≡ Some w
unfolding asm.modular_operand asm.modular
word_alone w below =
    let text_is : are_word (codes "0x" ++ hexadecimal w) ≡ true = rw (hexadecimal_is_word w) refl in
    rw (number_alone (codes "0x" ++ hexadecimal w) (omega arith) text_is, prefixed_read (hexadecimal w) w (hexadecimal_read w below)) refl

pub name_after : (at : ℕ) → asm.name_operand (32 ∷ label at) ≡ Some (label at)
unfolding asm.name_operand
name_after at =
    rw (sole_after (label at) (omega arith) (solid (label at) (label_is_operand at)), label_is_name at) refl

lacks_open : (text : List ℕ) → are_word text ≡ true → lacks 40 text ≡ true
lacks_open text h = all_of is_word_byte (λ b. not (eqb b 40)) word_lacks_open text h

lacks_close : (text : List ℕ) → are_word text ≡ true → lacks 41 text ≡ true
lacks_close text h = all_of is_word_byte (λ b. not (eqb b 41)) word_lacks_close text h

pub memory_after : (imm : ℤ) (rs1 : ℕ) → FitsSigned 12 imm → rs1 < 32 → asm.memory_operand (32 ∷ memory imm rs1) ≡ Some (imm, rs1)
unfolding asm.memory_operand
memory_after imm rs1 fits below =
    let more = length-append (signed_decimal imm) (base rs1) in
    let signed = signed_is_some imm fits in
    let some : 0 < length (memory imm rs1) = omega (arith, more, signed) in
    rw (
      sole_after (memory imm rs1) some (solid (memory imm rs1) (memory_is_operand imm rs1 fits below)),
      cut_at 40 (signed_decimal imm) (register rs1 ++ 41 ∷ []) (lacks_open (signed_decimal imm) (signed_is_word imm fits)),
      cut_at 41 (register rs1) [] (lacks_close (register rs1) (register_is_word rs1 below)),
      signed_reads imm fits,
      immediate_is imm fits,
      register_reads rs1 below,
    ) refl

pub base_after : (rs1 : ℕ) → rs1 < 32 → asm.base_operand (32 ∷ base rs1) ≡ Some rs1
unfolding asm.base_operand
base_after rs1 below =
    rw (
      sole_after (base rs1) (omega arith) (solid (base rs1) (base_is_operand rs1 below)),
      cut_at 40 [] (register rs1 ++ 41 ∷ []) refl,
      cut_at 41 (register rs1) [] (lacks_close (register rs1) (register_is_word rs1 below)),
      register_reads rs1 below,
    ) refl
