-- Which words are numbers.
use Rattle.std.proofs.Common.{◌≡◌, ◌<◌, ◌≤◌, ℕ, ◌+◌, ◌-◌, ◌*◌, Bool, true, false, ◌&&◌, nat_le, List, [], ◌∷◌, length}
use Rattle.std.proofs.Common.{fold, get_or, drop, drop-cons, add-one, refl, sym, ◌∙◌, ap, arith, Some, None}
use Rattle.std.proofs.Common.{if◌then◌else◌}
use Rattle.std.proofs.lemmas.Bool.Decides.{nat_tests}
use Rattle.std.specs.Str.{all_ascii_digits}
use Rattle.command_words.specs.Command.{decimal_value, number_up_to}

-- the value of digits is at least that of those in front
fold_le : (value : ℕ) (digits : List ℕ) → value ≤ fold (λ n c. 10 * n + (c - 48)) value digits
fold_le value [] = omega arith
fold_le value (c ∷ digits) = let rest = fold_le (10 * value + (c - 48)) digits in omega (arith, rest)

-- the last of four tests fails
last_fails : {X : Type 0} (a b c d : Bool) (x : X) → d ≡ false → None ≡ (if a && (b && (c && d)) then Some x else None)
last_fails false b c d x fails = refl
last_fails true false c d x fails = refl
last_fails true true false d x fails = refl
last_fails true true true d x fails = rw fails refl

-- a value past the limit, with digits to come
pub past_limit : (limit value i : ℕ) (digits word : List ℕ) → digits ≡ word →
    fold (λ n c. 10 * n + (c - 48)) value (drop i digits) ≡ decimal_value digits →
    i < length digits → limit < 10 * value + (get_or digits i 0 - 48) → None ≡ number_up_to limit word
past_limit limit value i digits word same so_far more past =
    let split : drop i digits ≡ get_or digits i 0 ∷ drop (i + 1) digits = rw add-one (drop-cons digits i 0 more) in
    let whole : fold (λ n c. 10 * n + (c - 48)) (10 * value + (get_or digits i 0 - 48))
    (drop (i + 1) digits) ≡ decimal_value digits =
    ap (fold (λ n c. 10 * n + (c - 48)) value) (sym split) ∙ so_far in
    let large : limit < decimal_value word =
    let rest = fold_le (10 * value + (get_or digits i 0 - 48)) (drop (i + 1) digits) in
    let named = ap decimal_value same in omega (arith, rest, whole, named, past) in
    last_fails (nat_le 1 (length word)) (nat_le (length word) 20) (all_ascii_digits word)
    (nat_le (decimal_value word) limit) (decimal_value word) (grind (arith, nat_tests))
