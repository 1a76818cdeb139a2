-- Facts on what shelves and sinks tell, and on their counts.
use Rattle.std.proofs.Common.{◌≡◌, ◌≤◌, ◌<◌, ◌+◌, ◌-◌, ◌^◌, ℕ, List, [], ◌++◌, length, take, sym, ◌∙◌, ap, subst}
use Rattle.std.proofs.Common.{arith, append_assoc, Option, Result, Ok, Err, OnOk, OnErr, IsErrAnd, length-append}
use Rattle.std.proofs.Math.Seq.{take-append-add}
use Rattle.std.proofs.lemmas.List.{take_all, append-nil, take-append-le}
use Rattle.cloak_base.specs.declared.causes.Failed.{Failed}
use Rattle.io_traits.specs.Told.{Tells, Grows, GrowsByFront, Rose, Counts, Puts}

-- what is told before a piece, and the piece, is told after it
pub Tells_after : (a b : Option (List ℕ)) (x piece : List ℕ) → Tells a x → Grows a b piece → Tells b (x ++ piece)
Tells_after a b x piece told grows = grows x told

-- nothing grows by no bytes
pub Grows-none : (a : Option (List ℕ)) → Grows a a []
Grows-none a = λ before told. subst (λ (l : List ℕ). Tells a l) (sym (append-nil before)) told

-- two pieces, one after the other, are one
pub Grows-append : (a b c : Option (List ℕ)) (x y : List ℕ) → Grows a b x → Grows b c y → Grows a c (x ++ y)
Grows-append a b c x y first second =
    λ before told.
    subst (λ (l : List ℕ). Tells c l) (append_assoc before x y) (second (before ++ x) (first before told))

-- a front of a piece
pub GrowsByFront-take : (a b : Option (List ℕ)) (piece : List ℕ) (n : ℕ) → n ≤ length piece →
    Grows a b (take n piece) → GrowsByFront a b piece
GrowsByFront-take a b piece n within grows = λ before told. (n, within, grows before told)

-- what stays grew by a front of any piece
pub GrowsByFront-none : (a b : Option (List ℕ)) (piece : List ℕ) → b ≡ a → GrowsByFront a b piece
GrowsByFront-none a b piece same =
    GrowsByFront-take a b piece 0 (omega arith)
    (subst (λ (t : Option (List ℕ)). Grows a t []) (sym same) (Grows-none a))

-- a whole piece is a front of itself
pub GrowsByFront-whole : (a b : Option (List ℕ)) (piece : List ℕ) → Grows a b piece → GrowsByFront a b piece
GrowsByFront-whole a b piece grows =
    GrowsByFront-take a b piece (length piece) (omega arith)
    (subst (λ (l : List ℕ). Grows a b l) (sym (take_all (length piece) piece (omega arith))) grows)

-- a piece, and then a front of another
pub GrowsByFront-append : (a b c : Option (List ℕ)) (x y : List ℕ) → Grows a b x → GrowsByFront b c y →
    GrowsByFront a c (x ++ y)
GrowsByFront-append a b c x y first second = λ before told.
    let front = second (before ++ x) (first before told) in (
      length x + front.0,
      (let both = length-append x y in let within = front.1 in omega (arith, both, within)),
      subst (λ (l : List ℕ). Tells c l)
          (append_assoc before x (take front.0 y)
          ∙ ap (λ (l : List ℕ). before ++ l) (sym (take-append-add x y front.0)))
          front.2,
    )

-- a front of the first of two pieces is one of both
pub GrowsByFront-first : (a b : Option (List ℕ)) (x y : List ℕ) → GrowsByFront a b x → GrowsByFront a b (x ++ y)
GrowsByFront-first a b x y front = λ before told.
    let part = front before told in
    let within : part.0 ≤ length x = part.1 in (
      part.0,
      (let both = length-append x y in omega (arith, both, within)),
      subst (λ (l : List ℕ). Tells b (before ++ l)) (sym (take-append-le part.0 x y within)) part.2,
    )

-- a count that does not stand at its last value is greater after a fault
pub Rose-below : (before now : ℕ) → Rose before now → before < 2 ^ 64 - 1 → before < now
Rose-below before now rose below = omega arith

-- a count that one call left and the next raised, rose
pub Rose-after : (before mid now : ℕ) → mid ≡ before → Rose mid now → Rose before now
Rose-after before mid now same rose = subst (λ (n : ℕ). Rose n now) same rose

-- What is put piece by piece.

pub puts : (a b : Option (List ℕ)) (m n : ℕ) (text : List ℕ) (r : Result Unit Failed) → OnOk r (Grows a b text) →
    OnErr r (GrowsByFront a b text) → Counts m n r → Puts a b m n text r
puts a b m n text (Ok u) grows front counts = (grows, counts)
puts a b m n text (Err e) grows front counts = (front, counts)

-- a piece, and then another
pub puts-then : (a b c : Option (List ℕ)) (m n k : ℕ) (x y : List ℕ) (u : Unit) (r : Result Unit Failed) →
    Puts a b m n x (Ok u) → Puts b c n k y r → Puts a c m k (x ++ y) r
puts-then a b c m n k x y u (Ok v) first second = (Grows-append a b c x y first.0 second.0, second.1 ∙ first.1)
puts-then a b c m n k x y u (Err e) first second =
    (GrowsByFront-append a b c x y first.0 second.0, Rose-after m n k first.1 second.1)

-- a piece that failed, and no other
pub puts-first : (a b : Option (List ℕ)) (m n : ℕ) (x y : List ℕ) (e : Failed) → Puts a b m n x (Err e) →
    Puts a b m n (x ++ y) (Err e)
puts-first a b m n x y e failed = (GrowsByFront-first a b x y failed.0, failed.1)

-- the failure, handed on
pub puts-failed : (a b : Option (List ℕ)) (m n : ℕ) (text : List ℕ) (e : Failed) (r : Result Unit Failed)
    (P : Failed → Type 0) → IsErrAnd r P → Puts a b m n text (Err e) → Puts a b m n text r
puts-failed a b m n text e (Ok u) P is failed = absurd is
puts-failed a b m n text e (Err f) P is failed = failed
