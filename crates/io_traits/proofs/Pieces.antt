-- A piece that is put in parts.
use Rattle.std.proofs.Common.{◌≡◌, ◌≤◌, ◌+◌, ◌-◌, ℕ, List, [], length, take, drop, refl, sym, ◌∙◌, ap, subst, arith}
use Rattle.std.proofs.Common.{Option, length-drop}
use Rattle.std.proofs.Math.Seq.{take-add}
use Rattle.std.proofs.lemmas.List.{drop-drop, take_all}
use Rattle.io_traits.specs.Told.{Grows}
use Rattle.io_traits.proofs.ToldFacts.{Grows-none, Grows-append}

-- a front of a piece is put, and the rest is left
pub record PutsFront (old mid : Option (List ℕ)) (before count : ℕ) (piece rest : List ℕ) : Type 0 where
  pub length_put : ℕ
  pub within : length_put ≤ length piece
  pub left : rest ≡ drop length_put piece
  pub told : Grows old mid (take length_put piece)
  pub counted : count ≡ before

pub PutsFront-none : (old : Option (List ℕ)) (before : ℕ) (piece : List ℕ) → PutsFront old old before before piece piece
PutsFront-none old before piece =
    record { length_put = 0; within = omega arith; left = refl; told = Grows-none old; counted = refl }

-- one part more
pub PutsFront-more : (old mid new : Option (List ℕ)) (before count now : ℕ) (piece rest rest' : List ℕ) (n : ℕ) →
    PutsFront old mid before count piece rest → n ≤ length rest → rest' ≡ drop n rest →
    Grows mid new (take n rest) → now ≡ count →
    PutsFront old new before now piece rest'
PutsFront-more old mid new before count now piece rest rest' n p within left puts same =
    let k : ℕ = p.length_put in
    let bound : n ≤ length (drop k piece) = rw p.left at within in
    record {
      length_put = k + n;
      within = (let len = length-drop k piece in omega (arith, bound, len, p.within));
      left = rw (left, p.left) (drop-drop n k piece);
      told = subst (λ (l : List ℕ). Grows old new l) (sym (take-add k n piece))
          (Grows-append old mid new (take k piece) (take n (drop k piece)) p.told
          (subst (λ (l : List ℕ). Grows mid new (take n l)) p.left puts));
      counted = same ∙ p.counted;
    }

-- of no bytes none are left
pub PutsFront-nothing : (old new : Option (List ℕ)) (before now : ℕ) (piece rest : List ℕ) →
    PutsFront old new before now piece rest → piece ≡ [] → length rest ≡ 0
PutsFront-nothing old new before now piece rest p none =
    let left = ap (λ (l : List ℕ). length l) p.left in
    let empty = ap (λ (l : List ℕ). length l) none in
    omega (arith, length-drop p.length_put piece, left, empty)

-- the rest of a rest
pub rest_after : (rest : List ℕ) (n : ℕ) → take (length rest - n) (drop n rest) ≡ drop n rest
rest_after rest n = take_all _ _ (let len = length-drop n rest in omega (arith, len))
