-- A window that is filled piece by piece, and what it then has.
use Rattle.std.proofs.Common.{◌≡◌, ℕ, zero, suc, ◌+◌, ◌-◌, ◌^◌, ◌≤◌, ◌<◌, ltb, true, false, cond, List, [], ◌∷◌, ◌++◌, length, length-append, take, drop, min, Option, Some, None, IfSome, refl, sym, ap, subst, ◌∙◌, inl, inr, append_assoc, length-drop, arith}
use Rattle.std.proofs.Math.Seq.{take-add}
use Rattle.std.proofs.lemmas.Bool.{cases_lt, lt-ltb, le-ltb}
use Rattle.std.proofs.lemmas.List.{drop-take, drop-drop, length-take, take_at, drop_at, take_all, drop_all}
use Rattle.io_traits.specs.Told.{IsCopied}
use Rattle.cloak_model.specs.declared.record.Tag.TheVariants as tag
use Rattle.record_reader.specs.declared.ahead.Ahead.{Ahead}
use Rattle.record_reader.specs.Ahead.{readable, StandAt, IsAhead, read_ahead, ahead_from, front_tag, HasWhole, IsEnough, IsFilled, IsWindow, OfFile}

-- a front of a front
pub take_take : (n k : ℕ) (xs : List ℕ) → take n (take (n + k) xs) ≡ take n xs
take_take n k xs =
    elim (cases_lt (length xs) n) [
      | inl lt ↦ take_all n (take (n + k) xs) (omega (arith, length-take (n + k) xs)) ∙ take_all (n + k) xs (omega arith) ∙ sym (take_all n xs (omega arith))
      | inr le ↦ ap (take n) (take-add n k xs) ∙ take_at (take n xs) (take k (drop n xs)) n (omega (arith, length-take n xs))
    ]

-- a front before offset 2^64 - 1
take_readable : (n at : ℕ) (bytes : List ℕ) → at + n ≤ 2 ^ 64 - 1 → take n (drop at (readable bytes)) ≡ take n (drop at bytes)
take_readable n at bytes fits =
    let k : ℕ = (2 ^ 64 - 1) - at - n in
    let whole : 2 ^ 64 - 1 ≡ at + (n + k) = omega arith in
    let d : drop at (take (2 ^ 64 - 1) bytes) ≡ take (n + k) (drop at bytes) = subst (λ m. drop at (take m bytes) ≡ take (n + k) (drop at bytes)) (sym whole) (drop-take at (n + k) bytes) in
    ap (take n) d ∙ take_take n k (drop at bytes)

-- what was filled stands at the front
filled_front : (n : ℕ) (d old new tail : List ℕ) → new ≡ take n d ++ drop n old → n ≤ length d → take n (new ++ tail) ≡ take n d
filled_front n d old new tail filled le =
    ap (take n) (ap (λ t. t ++ tail) filled ∙ append_assoc (take n d) (drop n old) tail) ∙ take_at (take n d) (drop n old ++ tail) n (omega (arith, le, length-take n d))

-- so far the front stands there
pub record FrontFilled (at count : ℕ) (into bytes : List ℕ) : Type 0 where
  pub there : count ≤ length (drop at (readable bytes))
  pub front : take count into ≡ take count (drop at (readable bytes))

pub FrontFilled-more : (at count limit n : ℕ) (into piece bytes : List ℕ) → FrontFilled at count into bytes → count ≤ limit → limit ≤ length into → at + limit ≤ 2 ^ 64 - 1
    → n ≤ limit - count → IsCopied bytes (at + count) n (take (limit - count) (drop count into)) piece
    → FrontFilled at (count + n) (take count into ++ (piece ++ drop (limit - count) (drop count into))) bytes
FrontFilled-more at count limit n into piece bytes f few room fits within copied =
    let d : List ℕ = drop at (readable bytes) in
    let m : ℕ = limit - count in
    let part : List ℕ = take m (drop count into) in
    let tail : List ℕ = piece ++ drop m (drop count into) in
    let head_len : length (take count into) ≡ count = omega (arith, few, room, length-take count into) in
    let beyond : drop count d ≡ drop (at + count) (readable bytes) = drop-drop count at (readable bytes) in
    let piece_is : take n (drop (at + count) bytes) ≡ take n (drop count d) = sym (take_readable n (at + count) bytes (omega (arith, within, few, fits))) ∙ ap (take n) (sym beyond) in
    let put : take n tail ≡ take n (drop count d) = filled_front n (drop (at + count) bytes) part piece (drop m (drop count into)) copied.copied copied.within ∙ piece_is in
    record {
      there = (let w = copied.within in let t = f.there in
          let dl = length-drop (at + count) bytes in let rl = length-take (2 ^ 64 - 1) bytes in let al = length-drop at (readable bytes) in omega (arith, w, t, dl, rl, al, within, few, fits));
      front = take-add count n (take count into ++ tail)
          ∙ ap (λ (l : List ℕ). l ++ take n (drop count (take count into ++ tail))) (take_at (take count into) tail count head_len ∙ f.front)
          ∙ ap (λ (l : List ℕ). take count d ++ take n l) (drop_at (take count into) tail count head_len)
          ∙ ap (λ (l : List ℕ). take count d ++ l) put ∙ sym (take-add count n d);
    }

-- a piece takes the place of one of its length
pub put_length : (count m : ℕ) (into piece : List ℕ) → count + m ≤ length into → length piece ≡ length (take m (drop count into)) → length (take count into ++ (piece ++ drop m (drop count into))) ≡ length into
put_length count m into piece room same =
    length-append (take count into) (piece ++ drop m (drop count into))
    ∙ omega (arith, room, same, length-append piece (drop m (drop count into)), length-take count into, length-take m (drop count into), length-drop count into, length-drop m (drop count into))

pub IfSome-more : (told now : Option (List ℕ)) (at count limit n : ℕ) (into piece : List ℕ) → now ≡ told
    → IfSome told (λ bytes. FrontFilled at count into bytes) → count ≤ limit → limit ≤ length into → at + limit ≤ 2 ^ 64 - 1
    → n ≤ limit - count → IfSome now (λ bytes. IsCopied bytes (at + count) n (take (limit - count) (drop count into)) piece)
    → IfSome told (λ bytes. FrontFilled at (count + n) (take count into ++ (piece ++ drop (limit - count) (drop count into))) bytes)
IfSome-more None now at count limit n into piece same f few room fits within copied = tt
IfSome-more (Some bytes) now at count limit n into piece same f few room fits within copied =
    FrontFilled-more at count limit n into piece bytes f few room fits within
    (subst (λ o. IfSome o (λ b. IsCopied b (at + count) n (take (limit - count) (drop count into)) piece)) same copied)

-- all that there is room for
pub filled_room : (told : Option (List ℕ)) (at count limit : ℕ) (into : List ℕ) → limit ≡ min 8192 (2 ^ 64 - 1 - at) → limit ≤ count → count ≤ limit → at ≤ 2 ^ 64 - 1
    → IfSome told (λ bytes. FrontFilled at count into bytes) → IfSome told (λ bytes. IsFilled (readable bytes) at count into)
filled_room None at count limit into is all few fits f = tt
filled_room (Some bytes) at count limit into is all few fits f = record {
  within = f.there;
  copied = f.front;
  enough = elim (cases_lt count 8192) [
    | inl less ↦ inl (let t = f.there in let rl = length-take (2 ^ 64 - 1) bytes in let al = length-drop at (readable bytes) in omega (arith, t, rl, al, less))
    | inr more ↦ inr (omega (arith, more), λ cipher. omega (arith, more))
  ];
}

-- all that there is
pub filled_end : (told now : Option (List ℕ)) (at count limit n : ℕ) (into piece : List ℕ) → now ≡ told → n ≡ 0 → count < limit → limit ≤ length into → at + limit ≤ 2 ^ 64 - 1
    → IfSome told (λ bytes. FrontFilled at count into bytes)
    → IfSome now (λ bytes. IsCopied bytes (at + count) n (take (limit - count) (drop count into)) piece)
    → IfSome told (λ bytes. IsFilled (readable bytes) at count (take count into ++ (piece ++ drop (limit - count) (drop count into))))
filled_end None now at count limit n into piece same none left room fits f copied = tt
filled_end (Some bytes) now at count limit n into piece same none left room fits f copied =
    let c : IsCopied bytes (at + count) n (take (limit - count) (drop count into)) piece = subst (λ o. IfSome o (λ b. IsCopied b (at + count) n (take (limit - count) (drop count into)) piece)) same copied in
    let more : FrontFilled at (count + n) (take count into ++ (piece ++ drop (limit - count) (drop count into))) bytes =
    FrontFilled-more at count limit n into piece bytes f (omega arith) room fits (omega arith) c in
    let here : count + n ≡ count = omega arith in
    let some : length (take (limit - count) (drop count into)) ≡ limit - count = omega (arith, length-take (limit - count) (drop count into), length-drop count into) in
    let past : length bytes ≤ at + count = c.at_end none (omega (arith, some)) in
    record {
      within = f.there;
      copied = subst (λ k. take k (take count into ++ (piece ++ drop (limit - count) (drop count into))) ≡ take k (drop at (readable bytes))) here more.front;
      enough = inl (let t = f.there in let rl = length-take (2 ^ 64 - 1) bytes in let al = length-drop at (readable bytes) in omega (arith, t, rl, al, past));
    }

-- ---- the whole item

tag_taken : (n : ℕ) (xs : List ℕ) → 0 < n → front_tag (take n xs) ≡ front_tag xs
tag_taken zero xs lt = absurd (omega (arith, lt))
tag_taken (suc n) [] lt = refl
tag_taken (suc n) (b ∷ xs) lt = refl

-- a front has the whole item that the bytes begin with
pub whole_front : (n : ℕ) (xs : List ℕ) → HasWhole n (take n xs) → HasWhole n xs
whole_front n xs h = (h.0, λ cipher. h.1 (tag_taken n xs (let long = h.0 in omega (arith, long)) ∙ cipher))

-- ---- what was read ahead

-- bytes that stand in a file
pub stand_within : (file : List ℕ) (at : ℕ) (bytes : List ℕ) → StandAt file at bytes → length bytes ≤ length (drop at file)
stand_within file at bytes stand = (let e : length bytes ≡ length (take (length bytes) (drop at file)) = ap (λ (l : List ℕ). length l) stand in omega (arith, e, length-take (length bytes) (drop at file)))

-- and what is after some of them
stand_behind : (file : List ℕ) (start k : ℕ) (bytes : List ℕ) → StandAt file start bytes → StandAt file (start + k) (drop k bytes)
stand_behind file start k bytes stand =
    elim (cases_lt (length bytes) k) [
      | inl past ↦ (let none : drop k bytes ≡ [] = drop_all k bytes (omega (arith, past)) in subst (λ (l : List ℕ). StandAt file (start + k) l) (sym none) refl)
      | inr le ↦ (let n : ℕ = length bytes - k in
          let whole : length bytes ≡ k + n = omega (arith, le) in
          let len : length (drop k bytes) ≡ n = omega (arith, length-drop k bytes) in
          ap (drop k) stand ∙ ap (λ m. drop k (take m (drop start file))) whole ∙ drop-take k n (drop start file) ∙ ap (take n) (drop-drop k start file)
          ∙ ap (λ m. take m (drop (start + k) file)) (sym len))
    ]

pub ahead_stands : (ahead : Ahead) (file : List ℕ) (at : ℕ) → IsAhead ahead file → StandAt file at (ahead_from at ahead)
ahead_stands ahead file at is =
    elim (cases_lt at ahead.start) [
      | inl before ↦ (let lt : ltb at ahead.start ≡ true = lt-ltb _ _ before in rw lt refl)
      | inr behind ↦ (let le : ltb at ahead.start ≡ false = le-ltb _ _ behind in
          let there : ahead.start + (at - ahead.start) ≡ at = omega (arith, behind) in
          rw le (subst (λ k. StandAt file k (drop (at - ahead.start) (read_ahead ahead))) there (stand_behind file ahead.start (at - ahead.start) (read_ahead ahead) is)))
    ]

-- a piece of the front, whose first byte is taken within it
drop_piece : (k count : ℕ) (bytes : List ℕ) → take (count - min k count) (drop (min k count) bytes) ≡ drop k (take count bytes)
drop_piece k count bytes =
    elim (cases_lt count k) [
      | inl past ↦ (let m : min k count ≡ count = omega arith in
          let none : count - count ≡ 0 = omega arith in
          ap (λ j. take (count - j) (drop j bytes)) m ∙ ap (λ n. take n (drop count bytes)) none ∙ sym (drop_all k (take count bytes) (omega (arith, past, length-take count bytes))))
      | inr le ↦ (let m : min k count ≡ k = omega arith in
          let n : ℕ = count - k in
          let whole : count ≡ k + n = omega arith in
          ap (λ j. take (count - j) (drop j bytes)) m ∙ sym (ap (λ j. drop k (take j bytes)) whole ∙ drop-take k n bytes))
    ]

pub from_behind : (ahead : Ahead) (at : ℕ) → ahead.start ≤ at → take (ahead.count - min (at - ahead.start) ahead.count) (drop (min (at - ahead.start) ahead.count) ahead.bytes) ≡ ahead_from at ahead
from_behind ahead at behind =
    let le : ltb at ahead.start ≡ false = le-ltb _ _ behind in rw le (drop_piece (at - ahead.start) ahead.count ahead.bytes)

-- a whole item is enough
pub window_item : (told : Option (List ℕ)) (ahead : Ahead) (at : ℕ) → HasWhole (length (ahead_from at ahead)) (ahead_from at ahead) → OfFile told ahead (λ file. IsWindow file at (ahead_from at ahead))
window_item None ahead at whole = tt
window_item (Some bytes) ahead at whole = λ is.
    let stand = ahead_stands ahead (readable bytes) at is in
    let n : ℕ = length (ahead_from at ahead) in
    record {
      stand = stand;
      enough = inr (whole_front n (drop at (readable bytes)) (subst (λ (l : List ℕ). HasWhole n l) stand whole));
    }

-- what was filled is read ahead
filled_stands : (file : List ℕ) (at n : ℕ) (buffer : List ℕ) → IsFilled file at n buffer → StandAt file at (take n buffer)
filled_stands file at n buffer f =
    let len : length (take n (drop at file)) ≡ n = (let w = f.within in omega (arith, w, length-take n (drop at file))) in
    let same : length (take n buffer) ≡ n = ap (λ (l : List ℕ). length l) f.copied ∙ len in
    f.copied ∙ ap (λ k. take k (drop at file)) (sym same)

from_start : (at n : ℕ) (buffer : List ℕ) → cond (ltb at at) [] (drop (at - at) (take n buffer)) ≡ take n buffer
from_start at n buffer =
    let le : ltb at at ≡ false = le-ltb _ _ (omega arith) in
    let none : at - at ≡ 0 = omega arith in
    rw (le, none) refl

pub window_filled : (told : Option (List ℕ)) (old : Ahead) (at n : ℕ) (buffer : List ℕ) → IfSome told (λ bytes. IsFilled (readable bytes) at n buffer)
    → OfFile told old (λ file. IsWindow file at (cond (ltb at at) [] (drop (at - at) (take n buffer))))
window_filled None old at n buffer f = tt
window_filled (Some bytes) old at n buffer f = λ is.
    let file : List ℕ = readable bytes in
    let len : length (take n buffer) ≡ n = (let w = f.within in ap (λ (l : List ℕ). length l) f.copied ∙ omega (arith, w, length-take n (drop at file))) in
    subst (λ (l : List ℕ). IsWindow file at l) (sym (from_start at n buffer)) (record {
      stand = filled_stands file at n buffer f;
      enough = subst (λ k. IsEnough file at k) (sym len) f.enough;
    })
