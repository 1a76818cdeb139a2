-- The words of a line, and the registers, numbers and names that operands are made of: this project's rule.
-- A text is a list of bytes.
use Rattle.std.specs.Prelude.{ℕ, ◌+◌, ◌*◌, ◌-◌, ◌^◌, ◌==◌, ◌&&◌, ◌||◌, not, Bool, true, false, List, [], ◌∷◌, length, take, drop, Option, Some, None, MatchOption, ◌≡◌, option_and_then, nat_lt, nat_le, if◌then◌else◌}
use Rattle.std.specs.List.{prefix_len, position, before_first, after_first, list_all}
use Rattle.rv_asm.specs.declared.words.Numeral.{Numeral}

infixl 10 ◌>>=◌
abbrev pub ◌>>=◌ : {A B : Type 0} → Option A → (A → Option B) → Option B
o >>= f = option_and_then f o

-- what a function returned, seen by view, is what the definition gives
abbrev pub FindsAs : {X Y : Type 0} → (X → Y) → Option X → Option Y → Type 0
FindsAs view result given = MatchOption result (given ≡ None) (λ x. given ≡ Some (view x))

-- a space or a tab
abbrev pub is_blank : ℕ → Bool
is_blank b = (b == 32) || (b == 9)

abbrev pub is_digit : ℕ → Bool
is_digit b = nat_le 48 b && nat_le b 57

-- before and after the first byte c, if there is one
unfoldable pub cut : ℕ → List ℕ → Option (List ℕ × List ℕ)
cut c text = do
  i ← position (λ b. b == c) text
  Some (take i text, drop (i + 1) text)

-- a text from its first word on
unfoldable pub from_word : List ℕ → List ℕ
from_word text = drop (prefix_len is_blank text) text

-- the first word of a text, empty if there is none, and what stands after it
unfoldable pub leading_word : List ℕ → List ℕ × List ℕ
leading_word text = let word = from_word text in (before_first is_blank word, after_first is_blank word)

-- the one word of a text that has no other
unfoldable pub sole_word : List ℕ → Option (List ℕ)
sole_word text = let word = leading_word text in if list_all is_blank word.1 then Some word.0 else None

-- ---- registers

unfoldable pub register_named : List ℕ → Option ℕ
register_named (x ∷ d ∷ []) = if (x == 120) && is_digit d then Some (d - 48) else None
register_named (x ∷ d ∷ e ∷ []) =
    if (x == 120) && (nat_le 49 d && (nat_le d 51 && is_digit e)) && nat_lt (10 * (d - 48) + (e - 48)) 32
    then Some (10 * (d - 48) + (e - 48)) else None
register_named _ = None

-- ---- numbers

-- the value of a digit, decimal or hexadecimal
unfoldable pub digit : ℕ → ℕ → Option ℕ
digit base b =
    if is_digit b then Some (b - 48)
    else if base == 16 && (nat_le 97 b && nat_le b 102) then Some (b - 87)
    else if base == 16 && (nat_le 65 b && nat_le b 70) then Some (b - 55)
    else None

-- the value of digits after others of value n
abbrev pub digits : ℕ → ℕ → List ℕ → Option ℕ
digits base n [] = Some n
digits base n (b ∷ bs) = digit base b >>= λ d. digits base (base * n + d) bs

-- 32 bits hold it
abbrev pub narrow : ℕ → Option ℕ
narrow n = if nat_lt n (2 ^ 32) then Some n else None

-- at least one digit
unfoldable pub value : ℕ → List ℕ → Option ℕ
value base text = if length text == 0 then None else digits base 0 text >>= narrow

-- decimal, or hexadecimal after `0x`
unfoldable pub magnitude : List ℕ → Option ℕ
magnitude (o ∷ x ∷ bs) = if (o == 48) && (x == 120) then value 16 bs else value 10 (o ∷ x ∷ bs)
magnitude bs = value 10 bs

abbrev pub signed_numeral : Bool → ℕ → Option Numeral
signed_numeral negative n = Some (record { negative = negative; magnitude = n })

-- a magnitude, after a `-` if it is negative. No operand takes one of more than 32 bits
unfoldable pub numeral : List ℕ → Option Numeral
numeral (sign ∷ bs) = if sign == 45 then magnitude bs >>= signed_numeral true else magnitude (sign ∷ bs) >>= signed_numeral false
numeral [] = None

-- ---- names of labels

-- a letter, a digit or `_`
abbrev pub is_name_byte : ℕ → Bool
is_name_byte b = is_digit b || (nat_le 97 b && nat_le b 122) || (nat_le 65 b && nat_le b 90) || (b == 95)

unfoldable pub is_name : List ℕ → Bool
is_name [] = false
is_name (b ∷ bs) = not (is_digit b) && list_all is_name_byte (b ∷ bs)
