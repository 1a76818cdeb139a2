-- What a text spells that stands in a file.
use Rattle.std.proofs.Common.{◌≡◌, ◌∙◌, ℕ, ◌+◌, ◌-◌, ◌^◌, ◌<◌, false, ltb, List, ◌∷◌, ◌++◌, length, get_or, take, drop, refl, sym, ap, arith, add-zero}
use Rattle.std.specs.Int.{w32, from_le_bytes}
use Rattle.std.proofs.lemmas.Bool.{le-ltb}
use Rattle.std.proofs.lemmas.List.{take_at, get_or-drop, length-drop, length-append}
use Rattle.std.proofs.lemmas.Nat.{from_le_bytes-to_le_bytes_4}
use Rattle.cloak_model.specs.Bits.{word}
use Rattle.cloak_model.specs.Fields.{number}
use Rattle.field_facts.proofs.Stands.{behind}

pub is_left : (body : List ℕ) (at : ℕ) (text rest : List ℕ) (n : ℕ) → drop at body ≡ text ++ rest → length text ≡ n →
    ltb (length body - at) n ≡ false
is_left body at text rest n e size =
    let all : length (drop at body) ≡ length (text ++ rest) = ap length e in
    le-ltb (length body - at) n (omega (arith, length-drop at body, length-append text rest))

pub number_again : (body : List ℕ) (at n : ℕ) (rest : List ℕ) → n < 2 ^ 32 → drop at body ≡ word n ++ rest →
    number body at ≡ n
number_again body at n rest lt e =
    ap (λ t. from_le_bytes w32 (take 4 t)) e ∙ ap (from_le_bytes w32) (take_at (word n) rest 4 refl)
    ∙ from_le_bytes-to_le_bytes_4 n lt

pub piece_again : (body : List ℕ) (at : ℕ) (text rest : List ℕ) (n : ℕ) → drop at body ≡ text ++ rest →
    length text ≡ n → take n (drop at body) ≡ text
piece_again body at text rest n e size = ap (take n) e ∙ take_at text rest n size

-- what stands after a text, at another name of the place
pub after_text : (body : List ℕ) (at : ℕ) (text rest : List ℕ) (next : ℕ) → drop at body ≡ text ++ rest →
    next ≡ at + length text → drop next body ≡ rest
after_text body at text rest next e is = ap (λ (k : ℕ). drop k body) is ∙ behind body at text rest e

pub byte_again : (body : List ℕ) (at b : ℕ) (rest : List ℕ) → drop at body ≡ b ∷ rest → get_or body at 0 ≡ b
byte_again body at b rest e =
    let first : get_or body (at + 0) 0 ≡ b = sym (get_or-drop at body 0 0) ∙ ap (λ t. get_or t 0 0) e in
    rw add-zero at first
