-- The line of a domain.
use Rattle.std.specs.Prelude.{ℕ, ◌+◌, List, ◌++◌, codes, decimal}
use Rattle.hex.specs.Hex.{encode_lower}

-- the line of a domain of this number, by the digest of its state, and the count and the digest of its loads
abbrev pub line_of : ℕ → List ℕ → ℕ → List ℕ → List ℕ
line_of number state count loads =
    codes "domain " ++ (decimal number ++ (codes " state " ++ (encode_lower state
    ++ (codes " loads " ++ (decimal count ++ (codes " " ++ (encode_lower loads ++ codes "\n")))))))
