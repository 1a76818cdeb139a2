-- How long parts of a file are.
use Rattle.std.proofs.Common.{◌≡◌, ℕ, ◌+◌, ◌*◌, List, [], ◌∷◌, length, length-append, refl, arith}
use Rattle.std.specs.List.{flat_map}
use Rattle.cloak_model.specs.Bits.{word}
use Rattle.cloak_model.specs.Bundle.{segment_bytes}
use Rattle.cloak_model.specs.declared.image.Segment.{Segment}

pub length-words : (words : List ℕ) → length (flat_map word words) ≡ 4 * length words
length-words [] = refl
length-words (w ∷ words) =
    let both = length-append (word w) (flat_map word words) in
    let one : length (word w) ≡ 4 = refl in
    let rest = length-words words in omega (arith, both, one, rest)

pub length-segment_bytes : (s : Segment) → length (segment_bytes s) ≡ 8 + length s.bytes
length-segment_bytes s = omega arith
