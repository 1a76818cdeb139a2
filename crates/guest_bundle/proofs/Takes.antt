-- The file spells what is read.
use Rattle.std.proofs.Common.{◌≡◌, ℕ, zero, suc, ◌+◌, ◌-◌, ◌*◌, ◌%◌, ◌^◌, ◌<◌, ◌≤◌, Bool, true, false, ◌&&◌, add-one, add-zero}
use Rattle.std.proofs.Common.{drop-cons, length-drop, cond, ltb, leb, eqb, List, [], ◌∷◌, ◌++◌, length, get_or, take}
use Rattle.std.proofs.Common.{drop, Result, Ok, Err, refl, sym, ap, subst, ◌∙◌, arith}
use Rattle.std.specs.Int.{w32, from_le_bytes}
use Rattle.std.specs.List.{flat_map, AllByRecursion}
use Rattle.std.proofs.lemmas.Bool.{and_parts, ltb-false, ltb-true, leb-true, eqb-true}
use Rattle.std.proofs.lemmas.List.{length-take}
use Rattle.std.proofs.lemmas.List.Concat.{flat_map-cons}
use Rattle.std.proofs.lemmas.Nat.{le_bytes_4}
use Rattle.cloak_model.specs.Bits.{word}
use Rattle.cloak_model.specs.Bundle.{Range, key_numbers, page_counts}
use Rattle.cloak_model.specs.Bundle.{segment_bytes, program_bytes, IsSegmentIn, IsProgramIn}
use Rattle.cloak_model.specs.declared.image.Segment.{Segment}
use Rattle.cloak_model.specs.declared.image.Program.{Program}
use Rattle.cloak_model.specs.declared.fault.BundleFault.{BundleFault}
use Rattle.cloak_model.specs.declared.fault.BundleFault.TheVariants.{Short, BadCount, TooLarge, BadRange}
use Rattle.field_facts.proofs.Stands.{Stands, Stands-then, piece_stands}
use Rattle.guest_bundle.specs.Fields.{◌>>=◌, bytes_at, pages_at, number_at, count_at, entry_at}
use Rattle.guest_bundle.specs.Reading.{turn_at, segment_at, segment_size, place_at, base_at, key_at, program_at}
use Rattle.guest_bundle.specs.Reading.{program_size, parts_at}
use Rattle.guest_bundle.specs.Places.{key_size}
use Rattle.cloak_model.specs.BundleFault.{lies_in_ram, is_base_of}
use Rattle.guest_bundle.proofs.Steps.{bind_ok, refused_not, passed, ok_is}
use Rattle.guest_bundle.proofs.Steps.{KeyFits, key_small, key_text}
use Rattle.cloak_base.proofs.Lists.{IsBytes-drop, IsBytes-take, IsBytes}

pub bytes_take : (file : List ℕ) (at n : ℕ) (x : List ℕ) → bytes_at file at n ≡ Ok x →
    Stands file at x (at + n) × (length x ≡ n)
bytes_take file at n x e =
    let g = refused_not (ltb (length file - at) n) (Short at) (Ok (take n (drop at file))) x e in
    let long : n ≤ length file - at = ltb-false _ _ g.0 in
    let is : take n (drop at file) ≡ x = ok_is _ _ g.1 in
    let len : length (take n (drop at file)) ≡ n = omega (arith, length-take n (drop at file), length-drop at file) in
    subst (λ t. Stands file at t (at + n) × (length t ≡ n)) is (piece_stands file at n, len)

pub pages_take : (file : List ℕ) (at n : ℕ) (x : List ℕ) → pages_at file at n ≡ Ok x →
    Stands file at x (at + 4096 * n) × (length x ≡ 4096 * n)
pages_take file at n x e =
    let g = refused_not (ltb (length file - at) (4096 * n)) _ (Ok (take (4096 * n) (drop at file))) x e in
    let long : 4096 * n ≤ length file - at = ltb-false _ _ g.0 in
    let is : take (4096 * n) (drop at file) ≡ x = ok_is _ _ g.1 in
    let len : length (take (4096 * n) (drop at file)) ≡ 4096 * n =
    omega (arith, length-take (4096 * n) (drop at file), length-drop at file) in
    subst (λ t. Stands file at t (at + 4096 * n) × (length t ≡ 4096 * n)) is (piece_stands file at (4096 * n), len)

pub record NumberStands (file : List ℕ) (at n : ℕ) : Type 0 where
  pub text : Stands file at (word n) (at + 4)
  pub small : n < 2 ^ 32

pub number_takes : (file : List ℕ) (at n : ℕ) → IsBytes file → number_at file at ≡ Ok n → NumberStands file at n
number_takes file at n fits e =
    let four = take 4 (drop at file) in
    let g = refused_not (ltb (length file - at) 4) (Short at) (Ok (from_le_bytes w32 four)) n e in
    let long : 4 ≤ length file - at = ltb-false _ _ g.0 in
    let are_bytes : IsBytes four = IsBytes-take 4 (drop at file) (IsBytes-drop at file fits) in
    let n_is : from_le_bytes w32 four ≡ n = ok_is _ _ g.1 in
    let front : word n ≡ four = le_bytes_4 four n (omega (arith, length-take 4 (drop at file), length-drop at file))
    are_bytes (sym n_is) in
    record {
      text = subst (λ t. Stands file at t (at + 4)) (sym front) (piece_stands file at 4);
      small = rw (← n_is) (omega (arith, are_bytes 0, are_bytes 1, are_bytes 2, are_bytes 3));
    }

pub count_takes : (file : List ℕ) (at : ℕ) (range : Range) (n : ℕ) → IsBytes file → count_at file at range ≡ Ok n →
    NumberStands file at n × (range.low ≤ n) × (n ≤ range.high)
unfolding count_at
count_takes file at range n fits e =
    let b = bind_ok (number_at file at)
    (λ m. cond (ltb m range.low) (Err (BadCount at)) (cond (ltb range.high m) (Err (TooLarge at)) (Ok m))) n e in
    let above = refused_not (ltb b.0 range.low) (BadCount at) (cond (ltb range.high b.0) (Err (TooLarge at)) (Ok b.0)) n b.2 in
    let below = refused_not (ltb range.high b.0) (TooLarge at) (Ok b.0) n above.1 in
    let is : b.0 ≡ n = ok_is _ _ below.1 in
    let least : range.low ≤ b.0 = ltb-false _ _ above.0 in
    let most : b.0 ≤ range.high = ltb-false _ _ below.0 in
    subst (λ m. NumberStands file at m × (range.low ≤ m) × (m ≤ range.high)) is (number_takes file at b.0 fits b.1, least, most)

pub entry_takes : (file : List ℕ) (at n : ℕ) → IsBytes file → entry_at file at ≡ Ok n →
    NumberStands file at n × (n % 4 ≡ 0)
unfolding entry_at
entry_takes file at n fits e =
    let b = bind_ok (number_at file at) (λ m. cond (eqb (m % 4) 0) (Ok m) (Err (BadRange at))) n e in
    let g = passed (eqb (b.0 % 4) 0) (BadRange at) (Ok b.0) n b.2 in
    subst (λ m. NumberStands file at m × (m % 4 ≡ 0)) (ok_is _ _ g.1)
    (number_takes file at b.0 fits b.1, eqb-true _ _ g.0)

first_stands : (file : List ℕ) (at : ℕ) → at < length file → Stands file at (get_or file at 0 ∷ []) (at + 1)
first_stands file at lt = record { parts = rw add-one (drop-cons file at 0 lt) }

pub turn_takes : (harts : ℕ) (file : List ℕ) (at n : ℕ) → turn_at harts file at ≡ Ok n →
    Stands file at (n ∷ []) (at + 1) × (n < harts)
turn_takes harts file at n e =
    let whole = refused_not (ltb (length file - at) 1) (Short at)
    (cond (ltb (get_or file at 0) harts) (Ok (get_or file at 0)) (Err (BadRange at))) n e in
    let inside : at < length file = omega (arith, ltb-false _ _ whole.0) in
    let g = passed (ltb (get_or file at 0) harts) (BadRange at) (Ok (get_or file at 0)) n whole.1 in
    subst (λ m. Stands file at (m ∷ []) (at + 1) × (m < harts)) (ok_is _ _ g.1)
    (first_stands file at inside, ltb-true _ _ g.0)

pub segment_takes : (frames : ℕ) (file : List ℕ) (at : ℕ) (s : Segment) → IsBytes file →
    segment_at frames file at ≡ Ok s → Stands file at (segment_bytes s) (at + segment_size s) × IsSegmentIn frames s
unfolding segment_at
segment_takes frames file at s fits e =
    let made : ℕ → List ℕ → Segment = λ address bytes. record { address = address; bytes = bytes } in
    let a = bind_ok (number_at file at)
    (λ address. number_at file (at + 4) >>= λ size. cond (lies_in_ram frames address size)
    (bytes_at file (at + 8) size) (Err (BadRange at)) >>= λ bytes. Ok (made address bytes)) s e in
    let b = bind_ok (number_at file (at + 4))
    (λ size. cond (lies_in_ram frames a.0 size) (bytes_at file (at + 8) size) (Err (BadRange at)) >>= λ bytes. Ok
    (made a.0 bytes)) s a.2 in
    let c = bind_ok (cond (lies_in_ram frames a.0 b.0) (bytes_at file (at + 8) b.0) (Err (BadRange at)))
    (λ bytes. Ok (made a.0 bytes)) s b.2 in
    let g = passed (lies_in_ram frames a.0 b.0) (BadRange at) (bytes_at file (at + 8) b.0) c.0 c.1 in
    let ram = and_parts (leb 0x80000000 a.0) (leb (a.0 + b.0) (0x80000000 + 4096 * frames)) g.0 in
    let t0 = number_takes file at a.0 fits a.1 in
    let t1 = number_takes file (at + 4) b.0 fits b.1 in
    let t2 = bytes_take file (at + 8) b.0 c.0 g.1 in
    let size_text : Stands file (at + 4) (word (length c.0)) (at + 8) =
    rw t2.1 (subst (λ k. Stands file (at + 4) (word b.0) k) (omega arith) t1.text) in
    let end : at + 8 + b.0 ≡ at + (8 + length c.0) = omega (arith, t2.1) in
    let last : Stands file (at + 8) c.0 (at + (8 + length c.0)) = subst (λ k. Stands file (at + 8) c.0 k) end t2.0 in
    let text = Stands-then file at (word a.0) (at + 4) (word (length c.0) ++ c.0) (at + (8 + length c.0)) t0.text
    (Stands-then file (at + 4) (word (length c.0)) (at + 8) c.0 (at + (8 + length c.0)) size_text last) in
    let from_start : 0x80000000 ≤ a.0 = leb-true _ _ ram.0 in
    let to_end : a.0 + b.0 ≤ 0x80000000 + 4096 * frames = leb-true _ _ ram.1 in
    let inside : IsSegmentIn frames (made a.0 c.0) =
    record { from_start = from_start; to_end = omega (arith, to_end, t2.1) } in
    subst (λ (x : Segment). Stands file at (segment_bytes x) (at + segment_size x) × IsSegmentIn frames x)
    (ok_is (made a.0 c.0) s c.2) (text, inside)

pub place_takes : (frames pages : ℕ) (file : List ℕ) (at n : ℕ) → IsBytes file → place_at frames pages file at ≡ Ok n →
    NumberStands file at n × (n + pages ≤ frames)
unfolding place_at
place_takes frames pages file at n fits e =
    let b = bind_ok (number_at file at) (λ m. cond (leb (m + pages) frames) (Ok m) (Err (BadRange at))) n e in
    let g = passed (leb (b.0 + pages) frames) (BadRange at) (Ok b.0) n b.2 in
    subst (λ m. NumberStands file at m × (m + pages ≤ frames)) (ok_is _ _ g.1)
    (number_takes file at b.0 fits b.1, leb-true _ _ g.0)

pub base_takes : (pages : ℕ) (file : List ℕ) (at n : ℕ) → IsBytes file → base_at pages file at ≡ Ok n →
    NumberStands file at n × (n % 4096 ≡ 0) × (n + 4096 * pages ≤ 2 ^ 32)
unfolding base_at
base_takes pages file at n fits e =
    let b = bind_ok (number_at file at) (λ m. cond (is_base_of pages m) (Ok m) (Err (BadRange at))) n e in
    let g = passed (is_base_of pages b.0) (BadRange at) (Ok b.0) n b.2 in
    let tests = and_parts (eqb (b.0 % 4096) 0) (leb (b.0 + 4096 * pages) (2 ^ 32)) g.0 in
    subst (λ m. NumberStands file at m × (m % 4096 ≡ 0) × (m + 4096 * pages ≤ 2 ^ 32)) (ok_is _ _ g.1)
    (number_takes file at b.0 fits b.1, eqb-true _ _ tests.0, leb-true _ _ tests.1)

key_takes : (keys : Bool) (file : List ℕ) (at key : ℕ) → IsBytes file → key_at keys file at ≡ Ok key →
    Stands file at (key_text keys key) (at + key_size keys) × KeyFits keys key
unfolding key_at
key_takes true file at key fits e =
    let n = count_takes file at key_numbers key fits e in (n.0.text, n.2)
key_takes false file at key fits e =
    let none : Stands file at [] (at + 0) = record { parts = rw add-zero refl } in
    (none, sym (ok_is 0 key e))

-- what a program that was read says of its fields
pub record ProgramSteps (keys : Bool) (frames : ℕ) (file : List ℕ) (at : ℕ) (p : Program) : Type 0 where
  pub pages : count_at file at page_counts ≡ Ok p.start.pages
  pub place : place_at frames p.start.pages file (at + 4) ≡ Ok p.place
  pub base : base_at p.start.pages file (at + 8) ≡ Ok p.start.base
  pub entry : entry_at file (at + 12) ≡ Ok p.start.entry
  pub sp : number_at file (at + 16) ≡ Ok p.start.sp
  pub key : key_at keys file (at + 20) ≡ Ok p.key
  pub bytes : pages_at file (at + 20 + key_size keys) p.start.pages ≡ Ok p.bytes

pub program_steps : (keys : Bool) (frames : ℕ) (file : List ℕ) (at : ℕ) (p : Program) →
    program_at keys frames file at ≡ Ok p → ProgramSteps keys frames file at p
unfolding program_at
program_steps keys frames file at p e =
    let made : ℕ → ℕ → ℕ → ℕ → ℕ → ℕ → List ℕ → Program =
    λ pages place base entry sp key bytes. record {
      place = place;
      start = record { pages = pages; base = base; entry = entry; sp = sp };
      key = key;
      bytes = bytes;
    } in
    let k6 = λ (pages place base entry sp key : ℕ). pages_at file (at + 20 + key_size keys) pages >>= λ bytes. Ok
    (made pages place base entry sp key bytes) in
    let k5 = λ (pages place base entry sp : ℕ). key_at keys file (at + 20) >>= k6 pages place base entry sp in
    let k4 = λ (pages place base entry : ℕ). number_at file (at + 16) >>= k5 pages place base entry in
    let k3 = λ (pages place base : ℕ). entry_at file (at + 12) >>= k4 pages place base in
    let k2 = λ (pages place : ℕ). base_at pages file (at + 8) >>= k3 pages place in
    let k1 = λ (pages : ℕ). place_at frames pages file (at + 4) >>= k2 pages in
    let a = bind_ok (count_at file at page_counts) k1 p e in
    let b = bind_ok (place_at frames a.0 file (at + 4)) (k2 a.0) p a.2 in
    let c = bind_ok (base_at a.0 file (at + 8)) (k3 a.0 b.0) p b.2 in
    let d = bind_ok (entry_at file (at + 12)) (k4 a.0 b.0 c.0) p c.2 in
    let s = bind_ok (number_at file (at + 16)) (k5 a.0 b.0 c.0 d.0) p d.2 in
    let k = bind_ok (key_at keys file (at + 20)) (k6 a.0 b.0 c.0 d.0 s.0) p s.2 in
    let t = bind_ok (pages_at file (at + 20 + key_size keys) a.0)
    (λ bytes. Ok (made a.0 b.0 c.0 d.0 s.0 k.0 bytes)) p k.2 in
    subst (ProgramSteps keys frames file at) (ok_is (made a.0 b.0 c.0 d.0 s.0 k.0 t.0) p t.2)
    (record { pages = a.1; place = b.1; base = c.1; entry = d.1; sp = s.1; key = k.1; bytes = t.1 })

pub program_takes : (version frames : ℕ) (file : List ℕ) (at : ℕ) (p : Program) → IsBytes file →
    program_at (eqb version 2) frames file at ≡ Ok p →
    Stands file at (program_bytes version p) (at + program_size (eqb version 2) p)
    × (IsProgramIn frames p × KeyFits (eqb version 2) p.key)
program_takes version frames file at p fits e =
    let keys = eqb version 2 in
    let x = p.start in
    let s = program_steps keys frames file at p e in
    let pages = count_takes file at page_counts x.pages fits s.pages in
    let place = place_takes frames x.pages file (at + 4) p.place fits s.place in
    let base = base_takes x.pages file (at + 8) x.base fits s.base in
    let entry = entry_takes file (at + 12) x.entry fits s.entry in
    let sp = number_takes file (at + 16) x.sp fits s.sp in
    let key = key_takes keys file (at + 20) p.key fits s.key in
    let bytes = pages_take file (at + 20 + key_size keys) x.pages p.bytes s.bytes in
    let last = at + program_size keys p in
    let x1 : Stands file (at + 4) (word p.place) (at + 8) =
    subst (λ k. Stands file (at + 4) (word p.place) k) (omega arith) place.0.text in
    let x2 : Stands file (at + 8) (word x.base) (at + 12) =
    subst (λ k. Stands file (at + 8) (word x.base) k) (omega arith) base.0.text in
    let x3 : Stands file (at + 12) (word x.entry) (at + 16) =
    subst (λ k. Stands file (at + 12) (word x.entry) k) (omega arith) entry.0.text in
    let x4 : Stands file (at + 16) (word x.sp) (at + 20) =
    subst (λ k. Stands file (at + 16) (word x.sp) k) (omega arith) sp.text in
    let end : at + 20 + key_size keys + 4096 * x.pages ≡ last = omega (arith, bytes.1) in
    let x5 : Stands file (at + 20 + key_size keys) p.bytes last =
    subst (λ k. Stands file (at + 20 + key_size keys) p.bytes k) end bytes.0 in
    let r5 = key_text keys p.key ++ p.bytes in
    let text = Stands-then file at (word x.pages) (at + 4)
    (word p.place ++ (word x.base ++ (word x.entry ++ (word x.sp ++ r5)))) last pages.0.text
    (Stands-then file (at + 4) (word p.place) (at + 8) (word x.base ++ (word x.entry ++ (word x.sp ++ r5))) last x1
    (Stands-then file (at + 8) (word x.base) (at + 12) (word x.entry ++ (word x.sp ++ r5)) last x2
    (Stands-then file (at + 12) (word x.entry) (at + 16) (word x.sp ++ r5) last x3
    (Stands-then file (at + 16) (word x.sp) (at + 20) r5 last x4
    (Stands-then file (at + 20) (key_text keys p.key) (at + 20 + key_size keys) p.bytes last key.0 x5))))) in
    let inside : IsProgramIn frames p = record {
      some_pages = pages.1;
      few_pages = pages.2;
      place = place.1;
      base = base.1;
      top = base.2;
      entry = entry.1;
      entry_fits = entry.0.small;
      sp_fits = sp.small;
      key = key_small keys p.key key.1;
      bytes = bytes.1;
    } in
    (text, (inside, key.1))

-- parts one after the other
pub parts_take : {X : Type 0} (text : X → List ℕ) (Fits : X → Type 0) (file : List ℕ) (part_at : ℕ →
    Result X BundleFault) (size : X → ℕ)
    → ((at : ℕ) (x : X) → part_at at ≡ Ok x → Stands file at (text x) (at + size x) × Fits x)
    → (n at : ℕ) (x : List X × ℕ) → parts_at part_at size n at ≡ Ok x →
    Stands file at (flat_map text x.0) x.1 × (length x.0 ≡ n) × AllByRecursion Fits x.0
unfolding parts_at
parts_take {X} text Fits file part_at size takes zero at x e =
    subst (λ (y : List X × ℕ). Stands file at (flat_map text y.0) y.1 × (length y.0 ≡ 0) × AllByRecursion Fits y.0)
    (ok_is ([], at) x e) (record { parts = refl }, refl, tt)
parts_take {X} text Fits file part_at size takes (suc n) at x e =
    let a = bind_ok (part_at at) (λ first. parts_at part_at size n (at + size first) >>= λ others. Ok
    (first ∷ others.0, others.1)) x e in
    let b = bind_ok (parts_at part_at size n (at + size a.0)) (λ others. Ok (a.0 ∷ others.0, others.1)) x a.2 in
    let first = takes at a.0 a.1 in
    let others = parts_take text Fits file part_at size takes n (at + size a.0) b.0 b.1 in
    let whole = Stands-then file at (text a.0) (at + size a.0) (flat_map text b.0.0) b.0.1 first.0 others.0 in
    let made : List X × ℕ = (a.0 ∷ b.0.0, b.0.1) in
    subst (λ (y : List X × ℕ). Stands file at (flat_map text y.0) y.1 × (length y.0 ≡ suc n) × AllByRecursion Fits y.0)
    (ok_is made x b.2) (rw flat_map-cons whole, ap suc others.1, (first.1, others.2))
