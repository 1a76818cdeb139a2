-- Hexadecimal digits are a text.
use Rattle.std.proofs.Common.{◌≡◌, ◌∙◌, ℕ, List, [], sym, subst, codes, arith}
use Rattle.std.specs.Str.{IsAscii, IsUtf8}
use Rattle.std.proofs.lemmas.Str.{IsUtf8-from_ascii}
use Rattle.std.proofs.lemmas.Str.Ascii.{IsAscii-cons, IsAscii-nil}
use Rattle.hex.specs.Hex.{encode_lower, lower_digits}
use Rattle.hex.proofs.HexLemmas.{IsAscii-encode_with}

digits_ascii : IsAscii lower_digits
digits_ascii =
    IsAscii-cons 48 (codes "123456789abcdef") (omega arith) (IsAscii-cons 49 (codes "23456789abcdef") (omega arith) (IsAscii-cons 50 (codes "3456789abcdef") (omega arith) (IsAscii-cons 51 (codes "456789abcdef") (omega arith) (IsAscii-cons 52 (codes "56789abcdef") (omega arith) (IsAscii-cons 53 (codes "6789abcdef") (omega arith) (IsAscii-cons 54 (codes "789abcdef") (omega arith) (IsAscii-cons 55 (codes "89abcdef") (omega arith) (IsAscii-cons 56 (codes "9abcdef") (omega arith) (IsAscii-cons 57 (codes "abcdef") (omega arith) (IsAscii-cons 97 (codes "bcdef") (omega arith) (IsAscii-cons 98 (codes "cdef") (omega arith) (IsAscii-cons 99 (codes "def") (omega arith) (IsAscii-cons 100 (codes "ef") (omega arith) (IsAscii-cons 101 (codes "f") (omega arith) (IsAscii-cons 102 [] (omega arith) IsAscii-nil)))))))))))))))

pub digits_are_text : (bytes : List ℕ) → IsUtf8 (encode_lower bytes)
digits_are_text bytes =
    IsUtf8-from_ascii (encode_lower bytes) (IsAscii-encode_with lower_digits bytes digits_ascii)

-- so they are shown
pub digits_shown : (shown digits bytes : List ℕ) → (IsUtf8 digits → shown ≡ digits) → digits ≡ encode_lower bytes →
    shown ≡ encode_lower bytes
digits_shown shown digits bytes shows are =
    shows (subst IsUtf8 (sym are) (digits_are_text bytes)) ∙ are
