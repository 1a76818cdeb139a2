-- Places of parts, and what is moved out from the last one on.
use Rattle.std.proofs.Common.{◌≡◌, ℕ, ◌+◌, ◌-◌, ◌≤◌, Bool, List, [], ◌∷◌, ◌++◌, length, map, take, drop, reverse, refl, sym, ap, subst, ◌∙◌}
use Rattle.std.proofs.Common.{append_assoc, arith}
use Rattle.std.proofs.lemmas.List.{length-take, length-drop, drop-take, take-take, take-append-drop, reverse-append, map-append}
use Rattle.std.proofs.lemmas.List.{drop-append-le}
use Rattle.guest_bundle.specs.Reading.{segment_size, program_size}
use Rattle.guest_bundle.specs.Places.{LieBetween, AreSegmentPlaces, IsSegmentPlace, IsProgramPlace}
use Rattle.guest_bundle.specs.Places.{bytes_between, segment_of, program_of}
use Rattle.guest_bundle.specs.declared.parts.SegmentPlace.{SegmentPlace}
use Rattle.guest_bundle.specs.declared.parts.ProgramPlace.{ProgramPlace}

-- a part more
pub lie_more : {X : Type 0} (from to : X → ℕ) (low : ℕ) (ps : List X) (at : ℕ) (p : X) → LieBetween from to low ps at →
    at ≤ from p → from p ≤ to p → LieBetween from to low (ps ++ p ∷ []) (to p)
lie_more from to low [] at p h a b = (omega arith, b, omega arith)
lie_more from to low (x ∷ ps) at p h a b = (h.0, h.1, lie_more from to (to x) ps at p h.2 a b)

-- the last part, and those before it
pub lie_less : {X : Type 0} (from to : X → ℕ) (low : ℕ) (ps : List X) (p : X) (high : ℕ) →
    LieBetween from to low (ps ++ p ∷ []) high → LieBetween from to low ps (from p) × (from p ≤ to p) × (to p ≤ high)
lie_less from to low [] p high h = (h.0, h.1, h.2)
lie_less from to low (x ∷ ps) p high h =
    let rest = lie_less from to (to x) ps p high h.2 in
    ((h.0, h.1, rest.0), rest.1, rest.2)

pub lie_low : {X : Type 0} (from to : X → ℕ) (low : ℕ) (ps : List X) (high : ℕ) → LieBetween from to low ps high →
    low ≤ high
lie_low from to low [] high h = h
lie_low from to low (x ∷ ps) high h =
    let rest : to x ≤ high = lie_low from to (to x) ps high h.2 in
    let first : low ≤ from x = h.0 in
    let order : from x ≤ to x = h.1 in
    omega arith

-- bytes that a front has
pub between_front : (file : List ℕ) (n from to : ℕ) → from ≤ to → to ≤ n →
    bytes_between (take n file) from to ≡ bytes_between file from to
between_front file n from to order h =
    let m : n ≡ from + (n - from) = omega arith in
    let e : drop from (take n file) ≡ take (n - from) (drop from file) =
    ap (λ k. drop from (take k file)) m ∙ drop-take from (n - from) file in
    let le : to - from ≤ n - from = omega arith in
    ap (take (to - from)) e ∙ take-take (to - from) (n - from) (drop from file) le

pub end_front : (file : List ℕ) (from to : ℕ) → from ≤ to → drop from (take to file) ≡ bytes_between file from to
end_front file from to h =
    let m : to ≡ from + (to - from) = omega arith in
    ap (λ k. drop from (take k file)) m ∙ drop-take from (to - from) file

-- parts that a front has
pub segments_front : (file : List ℕ) (n low : ℕ) (ps : List SegmentPlace) (high : ℕ) → high ≤ n →
    AreSegmentPlaces low ps high → map (segment_of (take n file)) ps ≡ map (segment_of file) ps
segments_front file n low [] high le h = refl
segments_front file n low (p ∷ ps) high le h =
    let rest = segments_front file n p.to ps high le h.2 in
    let top : p.to ≤ high = lie_low (λ (p : SegmentPlace). p.from) (λ (p : SegmentPlace). p.to) p.to ps high h.2 in
    let bytes = between_front file n p.from p.to h.1 (omega arith) in
    λ i. (record { address = p.address; bytes = bytes i }) ∷ rest i

-- one more part is moved after the others
pub moved_more : {X Y : Type 0} (f : X → Y) (ps : List X) (p : X) (out : List Y) (y : Y) → y ≡ f p →
    map f ps ++ reverse (out ++ y ∷ []) ≡ map f (ps ++ p ∷ []) ++ reverse out
moved_more f ps p out y e =
    let one : reverse (out ++ y ∷ []) ≡ f p ∷ reverse out = reverse-append out (y ∷ []) ∙ ap (λ z. z ∷ reverse out) e in
    let two : map f (ps ++ p ∷ []) ≡ map f ps ++ f p ∷ [] = map-append f ps (p ∷ []) in
    ap (λ l. map f ps ++ l) one ∙ sym (append_assoc (map f ps) (f p ∷ []) (reverse out)) ∙ ap (λ l. l ++ reverse out) (sym two)

-- bytes from a place on, and those after another one
pub moved_piece : (file : List ℕ) (at n : ℕ) → at ≤ n → n ≤ length file →
    reverse (drop n file) ++ reverse (drop at (take n file)) ≡ reverse (drop at file)
moved_piece file at n h there =
    let long : at ≤ length (take n file) = omega (arith, length-take n file) in
    let whole : drop at file ≡ drop at (take n file) ++ drop n file =
    ap (drop at) (sym (take-append-drop n file)) ∙ drop-append-le at (take n file) (drop n file) long in
    sym (ap reverse whole ∙ reverse-append (drop at (take n file)) (drop n file))

-- the offset after a part
pub segment_end : (file : List ℕ) (at : ℕ) (p : SegmentPlace) → IsSegmentPlace (length file) at p →
    at + segment_size (segment_of file p) ≡ p.to
segment_end file at p h =
    omega (arith, length-take (p.to - p.from) (drop p.from file), length-drop p.from file, h.from, h.order, h.within)

pub program_end : (keys : Bool) (file : List ℕ) (at : ℕ) (p : ProgramPlace) → IsProgramPlace keys (length file) at p →
    at + program_size keys (program_of file p) ≡ p.to
program_end keys file at p h =
    omega (arith, length-take (p.to - p.from) (drop p.from file), length-drop p.from file, h.from, h.order, h.within)

-- A piece more is moved.
pub record HasMoved (file0 : List ℕ) (from : ℕ) (file bytes : List ℕ) : Type 0 where
  pub rest : file ≡ take (length file) file0
  pub moved : bytes ≡ reverse (drop (length file) file0)
  pub low : from ≤ length file

front_length : (file0 file : List ℕ) → file ≡ take (length file) file0 → length file ≤ length file0
front_length file0 file e = omega (arith, ap length e, length-take (length file) file0)

front_front : (file0 file file2 : List ℕ) (at : ℕ) → file ≡ take (length file) file0 → at ≤ length file →
    file2 ≡ take at file → (length file2 ≡ at) × (file2 ≡ take at file0)
front_front file0 file file2 at rest le e =
    (omega (arith, ap length e, length-take at file), e ∙ ap (take at) rest ∙ take-take at (length file) file0 le)

pub moves_piece : (file0 : List ℕ) (from : ℕ) (file bytes file2 bytes2 : List ℕ) (at : ℕ) → HasMoved file0 from file bytes →
    from ≤ at → at ≤ length file → file2 ≡ take at file → bytes2 ≡ bytes ++ reverse (drop at file) →
    HasMoved file0 from file2 bytes2
moves_piece file0 from file bytes file2 bytes2 at h low le e b =
    let there = front_length file0 file h.rest in
    let front = front_front file0 file file2 at h.rest le e in
    let all : bytes2 ≡ reverse (drop at file0) =
    b ∙ ap (λ x. x ++ reverse (drop at file)) h.moved
    ∙ ap (λ x. reverse (drop (length file) file0) ++ reverse (drop at x)) h.rest ∙ moved_piece file0 at (length file) le there in
    record {
      rest = front.1 ∙ ap (λ k. take k file0) (sym front.0);
      moved = all ∙ ap (λ k. reverse (drop k file0)) (sym front.0);
      low = omega (arith, front.0);
    }

-- the bytes of a part, as they are moved
pub is_moved : (file0 file : List ℕ) (from to : ℕ) (bytes : List ℕ) → file ≡ take (length file) file0 → from ≤ to →
    to ≤ length file → bytes ≡ take (to - from) (drop from file) → bytes ≡ bytes_between file0 from to
is_moved file0 file from to bytes rest order le e =
    e ∙ ap (λ x. take (to - from) (drop from x)) rest ∙ between_front file0 (length file) from to order le

-- Parts are moved, from the last one on.
pub record AreMoved {X Y : Type 0} (from to : X → ℕ) (f : X → Y) (file0 : List ℕ) (low : ℕ) (total : List Y) (file : List ℕ) (ps : List X) (out : List Y) : Type 0 where
  pub rest : file ≡ take (length file) file0
  pub lie : LieBetween from to low ps (length file)
  pub so_far : map f ps ++ reverse out ≡ total

pub moves_on : {X Y : Type 0} (from to : X → ℕ) (f : X → Y) (file0 : List ℕ) (low : ℕ) (total : List Y)
    (file : List ℕ) (ps : List X) (out : List Y) (file2 : List ℕ) (ps2 : List X) (p : X) (out2 : List Y) (y : Y) →
    AreMoved from to f file0 low total file ps out → ps ≡ ps2 ++ p ∷ [] → y ≡ f p → file2 ≡ take (from p) file →
    out2 ≡ out ++ y ∷ [] → AreMoved from to f file0 low total file2 ps2 out2
moves_on from to f file0 low total file ps out file2 ps2 p out2 y h e is cut pushed =
    let lie : LieBetween from to low (ps2 ++ p ∷ []) (length file) =
    subst (λ x. LieBetween from to low x (length file)) e h.lie in
    let last = lie_less from to low ps2 p (length file) lie in
    let order : from p ≤ to p = last.1 in
    let top : to p ≤ length file = last.2 in
    let front = front_front file0 file file2 (from p) h.rest (omega arith) cut in
    record {
      rest = front.1 ∙ ap (λ k. take k file0) (sym front.0);
      lie = subst (λ k. LieBetween from to low ps2 k) (sym front.0) last.0;
      so_far = ap (λ x. map f ps2 ++ reverse x) pushed ∙ moved_more f ps2 p out y is ∙ ap (λ x. map f x ++ reverse out) (sym e)
          ∙ h.so_far;
    }

-- the segments of a front of a front
pub gathered_segments : (file file1 file2 : List ℕ) (low start end : ℕ) (ps : List SegmentPlace) → file1 ≡ take end file →
    file2 ≡ take start file1 → start ≤ end → AreSegmentPlaces low ps start →
    map (segment_of file2) ps ≡ map (segment_of file) ps
gathered_segments file file1 file2 low start end ps e1 e2 h lie =
    let front : file2 ≡ take start file = e2 ∙ ap (take start) e1 ∙ take-take start end file h in
    ap (λ x. map (segment_of x) ps) front ∙ segments_front file start low ps start (omega arith) lie
