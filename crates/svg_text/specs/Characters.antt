-- Characters as they stand in XML: each is a number of Unicode, and its text has bytes of ASCII alone.
use Rattle.std.specs.Prelude.{ℕ, ◌==◌, ◌&&◌, ◌||◌, nat_le, Bool, List, [], ◌∷◌, ◌++◌, codes, decimal, if◌then◌else◌}
use Rattle.std.specs.List.{flat_map}

-- a character that XML 1.0 has, and that shows something; controls are none
abbrev pub is_sign : ℕ → Bool
is_sign c =
    (nat_le 32 c && nat_le c 126)
    || ((nat_le 160 c && nat_le c 55295) || ((nat_le 57344 c && nat_le c 65533) || (nat_le 65536 c && nat_le c 1114111)))

-- what is written for it: another character becomes the one that stands for what cannot be shown
abbrev pub sign_of : ℕ → ℕ
sign_of c = if is_sign c then c else 65533

-- a character by its number
abbrev pub reference : ℕ → List ℕ
reference c = codes "&#" ++ (decimal c ++ codes ";")

-- Its text: signs of markup have names, and what is not in ASCII stands by its number.
unfoldable pub escaped_sign : ℕ → List ℕ
escaped_sign c =
    if c == 38 then codes "&amp;" else
    if c == 60 then codes "&lt;" else
    if c == 62 then codes "&gt;" else
    if c == 34 then codes "&quot;" else
    if nat_le 32 c && nat_le c 126 then c ∷ [] else
    reference (sign_of c)

abbrev pub escaped : List ℕ → List ℕ
escaped signs = flat_map escaped_sign signs
