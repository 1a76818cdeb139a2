-- A listing, one word after another.
use Rattle.std.proofs.Common.{◌≡◌, ℕ, zero, suc, ◌+◌, ◌<◌, List, [], ◌∷◌, ◌++◌, get_or, take, drop, sym, ap, ◌∙◌, arith}
use Rattle.std.specs.List.{flat_map}
use Rattle.std.proofs.lemmas.Grind.{flat_map-append}
use Rattle.std.proofs.Math.Seq.{take-add}
use Rattle.cloak_model.specs.Bits.{word}

-- ---- lines

-- ---- labels

-- ---- words of bytes

drop_below : (n : ℕ) (bs : List ℕ) → ((i : ℕ) → get_or bs i 0 < 256) → (i : ℕ) → get_or (drop n bs) i 0 < 256
drop_below zero bs h i = h i
drop_below (suc n) [] h i = h i
drop_below (suc n) (b ∷ bs) h i = drop_below n bs (λ j. h (suc j)) i

take_below : (n : ℕ) (bs : List ℕ) → ((i : ℕ) → get_or bs i 0 < 256) → (i : ℕ) → get_or (take n bs) i 0 < 256
take_below zero bs h i = omega arith
take_below (suc n) [] h i = h i
take_below (suc n) (b ∷ bs) h zero = h 0
take_below (suc n) (b ∷ bs) h (suc i) = take_below n bs (λ j. h (suc j)) i

pub part_below : (at n : ℕ) (bs : List ℕ) → ((i : ℕ) → get_or bs i 0 < 256) → (i : ℕ) → get_or (take n (drop at bs)) i 0 < 256
part_below at n bs h i = take_below n (drop at bs) (drop_below at bs h) i

pub next_word : (bytes words : List ℕ) (at w : ℕ) → flat_map word words ≡ take at bytes → word w ≡ take 4 (drop at bytes) →
    flat_map word (words ++ w ∷ []) ≡ take (at + 4) bytes
next_word bytes words at w so_far is =
    let one : flat_map word (w ∷ []) ≡ take 4 (drop at bytes) = is in
    flat_map-append word words (w ∷ [])
    ∙ (ap (λ (x : List ℕ). x ++ flat_map word (w ∷ [])) so_far ∙ (ap (λ (x : List ℕ). take at bytes ++ x) one ∙ sym (take-add at 4 bytes)))
