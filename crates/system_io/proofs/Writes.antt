-- Bytes that are written in parts, and those that stay gathered.
use Rattle.std.proofs.Common.{◌≡◌, ◌<◌, ◌≤◌, ◌+◌, ◌-◌, ℕ, List, [], ◌++◌, length, take, drop, sym, ◌∙◌, ap, subst, arith}
use Rattle.std.proofs.Common.{Option, None, Some, refl, append_assoc, length-append, length-drop}
use Rattle.std.proofs.Math.Seq.{take-add, take-append-add}
use Rattle.std.proofs.lemmas.List.{append-nil}
use Rattle.std.specs.Io.KnownBytes.{append_known}
use Rattle.io_traits.specs.Told.{Grows, Tells}

-- two pieces, one after the other
pub append_known-append : (a : Option (List ℕ)) (x y : List ℕ) →
    append_known (append_known a x) y ≡ append_known a (x ++ y)
append_known-append None x y = refl
append_known-append (Some l) x y = ap (λ (k : List ℕ). Some k) (append_assoc l x y)

-- no bytes
pub append_known-nil : (a : Option (List ℕ)) → append_known a [] ≡ a
append_known-nil None = refl
append_known-nil (Some l) = ap (λ (k : List ℕ). Some k) (append-nil l)

-- one part more of a piece is written
pub append_known-more : (a b c : Option (List ℕ)) (piece part : List ℕ) (n more : ℕ) → part ≡ drop n piece →
    b ≡ append_known a (take n piece) → c ≡ append_known b (take more part) → c ≡ append_known a (take (n + more) piece)
append_known-more a b c piece part n more is first second =
    second ∙ ap (λ (o : Option (List ℕ)). append_known o (take more part)) first
    ∙ append_known-append a (take n piece) (take more part)
    ∙ ap (λ (l : List ℕ). append_known a (take n piece ++ take more l)) is
    ∙ ap (λ (l : List ℕ). append_known a l) (sym (take-add n more piece))

-- what is told after a piece grew by it
pub Grows-known : (a b : Option (List ℕ)) (piece : List ℕ) → b ≡ append_known a piece → Grows a b piece
Grows-known None b piece is = λ before told. subst (λ (o : Option (List ℕ)). Tells o (before ++ piece)) (sym is) tt
Grows-known (Some l) b piece is = λ before told.
    subst (λ (o : Option (List ℕ)). Tells o (before ++ piece)) (sym is) (ap (λ (k : List ℕ). k ++ piece) told)

-- of a piece that was put after others and of which all were written but the last, what is left is taken back
pub append_known-back : (a s : Option (List ℕ)) (g p r : List ℕ) (n : ℕ) → append_known s g ≡ append_known a p →
    r ≡ take (length g - length p) g → n ≡ length p - length g → append_known s r ≡ append_known a (take n p)
append_known-back None None g p r n is left count = refl
append_known-back None (Some l) g p r n is left count = absurd (let never : Some (l ++ g) ≡ None = is in cc)
append_known-back (Some k) None g p r n is left count = absurd (let never : None ≡ Some (k ++ p) = is in cc)
append_known-back (Some k) (Some l) g p r n is left count =
    let same : l ++ g ≡ k ++ p = cc in
    let lengths : length l + length g ≡ length k + length p =
    sym (length-append l g) ∙ ap (λ (m : List ℕ). length m) same ∙ length-append k p in
    let place : length l + (length g - length p) ≡ length k + n = omega (arith, lengths, count) in
    ap (λ (m : List ℕ). Some m)
    (ap (λ (m : List ℕ). l ++ m) left ∙ sym (take-append-add l g (length g - length p))
    ∙ ap (λ (m : List ℕ). take (length l + (length g - length p)) m) same
    ∙ ap (λ (i : ℕ). take i (k ++ p)) place ∙ take-append-add k p n)

-- bytes are left after a place before the end
pub left_after : (all : List ℕ) (at : ℕ) → at < length all → drop at all ≡ [] → ⊥
left_after all at before none =
    let len = length-drop at all in
    let e = ap (λ (l : List ℕ). length l) none in
    omega (arith, len, e)
