-- Bytes and texts that stand in a file.
use Rattle.std.proofs.Common.{◌≡◌, ◌∙◌, ℕ, ◌+◌, ◌-◌, ◌^◌, ◌<◌, ◌≤◌, List, [], ◌∷◌, ◌++◌, length, get_or, take, drop, All, refl, sym, ap, subst, arith, inl, inr}
use Rattle.std.specs.Int.{w64, from_le_bytes}
use Rattle.std.proofs.lemmas.Bool.{cases_lt}
use Rattle.std.proofs.lemmas.List.{take-append-drop, drop-drop, drop_at, drop_more, length-take, length-drop, get_or_past, append_assoc}
use Rattle.std.proofs.lemmas.List.Elements.{All-take, All-drop, All-get_or}
use Rattle.std.proofs.lemmas.Nat.{le_bytes_4, le_bytes_8}
use Rattle.cloak_model.specs.Bits.{word}
use Rattle.cloak_model.specs.StoredFiles.{long}
use Rattle.cloak_model.specs.Fields.{number}

abbrev pub AreBytes : List ℕ → Type 0
AreBytes bytes = All (λ b. b < 256) bytes

pub each_byte : (bytes : List ℕ) → AreBytes bytes → (i : ℕ) → get_or bytes i 0 < 256
each_byte bytes are i =
    elim (cases_lt i (length bytes)) [
      | inl lt ↦ All-get_or (λ b. b < 256) bytes i 0 lt are
      | inr le ↦ rw (get_or_past bytes i 0 le) (omega arith)
    ]

pub piece_bytes : (n at : ℕ) (bytes : List ℕ) → AreBytes bytes → AreBytes (take n (drop at bytes))
piece_bytes n at bytes are =
    All-take (λ b. b < 256) n (drop at bytes) (All-drop (λ b. b < 256) at bytes are)

pub piece_length : (n at : ℕ) (bytes : List ℕ) → n ≤ length bytes - at → length (take n (drop at bytes)) ≡ n
piece_length n at bytes le = omega (arith, length-take n (drop at bytes), length-drop at bytes)

-- a text stands in the body from one offset to another
pub record Stands (body : List ℕ) (at : ℕ) (text : List ℕ) (next : ℕ) : Type 0 where
  pub parts : drop at body ≡ text ++ drop next body

pub Stands-then : (body : List ℕ) (a : ℕ) (x : List ℕ) (b : ℕ) (y : List ℕ) (c : ℕ) → Stands body a x b →
    Stands body b y c → Stands body a (x ++ y) c
Stands-then body a x b y c p q =
    record { parts = p.parts ∙ ap (λ t. x ++ t) q.parts ∙ sym (append_assoc x y (drop c body)) }

pub piece_stands : (body : List ℕ) (at n : ℕ) → Stands body at (take n (drop at body)) (at + n)
piece_stands body at n = record {
  parts =
      sym (take-append-drop n (drop at body)) ∙ ap (λ t. take n (drop at body) ++ t) (drop-drop n at body);
}

pub byte_stands : (body : List ℕ) (at b : ℕ) → 1 ≤ length body - at → get_or body at 0 ≡ b →
    Stands body at (b ∷ []) (at + 1)
byte_stands body at b le is = record {
  parts = drop_more body at 0 (omega arith) ∙ ap (λ (k : ℕ). k ∷ drop (at + 1) body) is;
}

pub number_stands : (body : List ℕ) (at : ℕ) → AreBytes body → 4 ≤ length body - at →
    Stands body at (word (number body at)) (at + 4)
number_stands body at are le =
    let four = take 4 (drop at body) in
    let same : word (number body at) ≡ four =
    le_bytes_4 four (number body at) (piece_length 4 at body le) (each_byte four (piece_bytes 4 at body are)) refl in
    subst (λ t. Stands body at t (at + 4)) (sym same) (piece_stands body at 4)

pub number_small : (body : List ℕ) (at : ℕ) → AreBytes body → number body at < 2 ^ 32
number_small body at are =
    let each = each_byte (take 4 (drop at body)) (piece_bytes 4 at body are) in
    omega (arith, each 0, each 1, each 2, each 3)

-- the same of eight bytes
pub long_is : (eight : List ℕ) → AreBytes eight → length eight ≡ 8 → long (from_le_bytes w64 eight) ≡ eight
long_is eight are size = le_bytes_8 eight (from_le_bytes w64 eight) size (each_byte eight are) refl

pub long_small : (eight : List ℕ) → AreBytes eight → from_le_bytes w64 eight < 2 ^ 64
long_small eight are =
    let each = each_byte eight are in
    omega (arith, each 0, each 1, each 2, each 3, each 4, each 5, each 6, each 7)

-- what stands after a text
pub behind : (body : List ℕ) (at : ℕ) (text rest : List ℕ) → drop at body ≡ text ++ rest →
    drop (at + length text) body ≡ rest
behind body at text rest e = sym (drop-drop (length text) at body) ∙ ap (drop (length text)) e
    ∙ drop_at text rest (length text) refl
