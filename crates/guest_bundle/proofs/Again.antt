-- What the file spells is read.
use Rattle.std.proofs.Common.{◌≡◌, ℕ, ◌+◌, ◌-◌, ◌*◌, ◌%◌, ◌^◌, ◌<◌, ◌≤◌, Bool, true, false, ltb, leb, eqb, List, [], ◌∷◌}
use Rattle.std.proofs.Common.{◌++◌, length, get_or, drop, Result, Ok, refl, sym, ap, ◌∙◌, append_assoc, add-zero}
use Rattle.std.proofs.Common.{length-drop, length-append, arith}
use Rattle.std.specs.Int.{w32, from_le_bytes}
use Rattle.std.specs.List.{flat_map, AllByRecursion}
use Rattle.std.proofs.lemmas.Bool.{le-ltb, lt-ltb, le-leb, eq-eqb}
use Rattle.std.proofs.lemmas.List.{take_at, get_or-drop}
use Rattle.std.proofs.lemmas.List.Concat.{flat_map-cons}
use Rattle.std.proofs.lemmas.Nat.{from_le_bytes-to_le_bytes_4}
use Rattle.cloak_model.specs.Bits.{word}
use Rattle.cloak_model.specs.Bundle.{Range, frame_counts, page_counts, key_numbers}
use Rattle.cloak_model.specs.Bundle.{segment_bytes, program_bytes, IsSegmentIn, IsProgramIn}
use Rattle.cloak_model.specs.declared.image.Segment.{Segment}
use Rattle.cloak_model.specs.declared.image.Program.{Program}
use Rattle.cloak_model.specs.declared.fault.BundleFault.{BundleFault}
use Rattle.field_facts.proofs.Again.{is_left}
use Rattle.field_facts.proofs.Stands.{behind}
use Rattle.guest_bundle.specs.Fields.{bytes_at, pages_at, number_at, count_at, entry_at}
use Rattle.guest_bundle.specs.Reading.{turn_at, segment_at, place_at, base_at, key_at, program_at, parts_at}
use Rattle.guest_bundle.specs.Places.{key_size}
use Rattle.guest_bundle.proofs.Steps.{KeyFits, key_text, key_text-length}

read_again : (file : List ℕ) (at n : ℕ) (rest : List ℕ) → drop at file ≡ word n ++ rest →
    number_at file at ≡ Ok (from_le_bytes w32 (word n))
read_again file at n rest e = rw (is_left file at (word n) rest 4 e refl, e) refl

pub number_again : (file : List ℕ) (at n : ℕ) (rest : List ℕ) → n < 2 ^ 32 → drop at file ≡ word n ++ rest →
    number_at file at ≡ Ok n
number_again file at n rest lt e = read_again file at n rest e ∙ ap (λ m. Ok m) (from_le_bytes-to_le_bytes_4 n lt)

pub bytes_again : (file : List ℕ) (at n : ℕ) (text rest : List ℕ) → drop at file ≡ text ++ rest → length text ≡ n →
    bytes_at file at n ≡ Ok text
bytes_again file at n text rest e len = rw (is_left file at text rest n e len, e, take_at text rest n len) refl

pub pages_again : (file : List ℕ) (at n : ℕ) (text rest : List ℕ) → drop at file ≡ text ++ rest →
    length text ≡ 4096 * n → pages_at file at n ≡ Ok text
pages_again file at n text rest e len =
    rw (is_left file at text rest (4096 * n) e len, e, take_at text rest (4096 * n) len) refl

pub count_again : (file : List ℕ) (at : ℕ) (range : Range) (n : ℕ) (rest : List ℕ) → range.high < 2 ^ 32 →
    range.low ≤ n → n ≤ range.high → drop at file ≡ word n ++ rest → count_at file at range ≡ Ok n
unfolding count_at
count_again file at range n rest lt least most e =
    rw (number_again file at n rest (omega arith) e, le-ltb n range.low least, le-ltb range.high n most) refl

pub entry_again : (file : List ℕ) (at n : ℕ) (rest : List ℕ) → n % 4 ≡ 0 → n < 2 ^ 32 → drop at file ≡ word n ++ rest →
    entry_at file at ≡ Ok n
unfolding entry_at
entry_again file at n rest multiple lt e =
    let test : eqb (n % 4) 0 ≡ true = eq-eqb _ _ multiple in
    rw (number_again file at n rest lt e, test) refl

pub turn_again : (harts : ℕ) (file : List ℕ) (at n : ℕ) (rest : List ℕ) → n < harts → drop at file ≡ (n ∷ []) ++ rest →
    turn_at harts file at ≡ Ok n
turn_again harts file at n rest lt e =
    let first : get_or file (at + 0) 0 ≡ n = sym (get_or-drop at file 0 0) ∙ ap (λ t. get_or t 0 0) e in
    let is : get_or file at 0 ≡ n = rw add-zero at first in
    rw (is_left file at (n ∷ []) rest 1 e refl, is, lt-ltb n harts lt) refl

pub segment_again : (frames : ℕ) (file : List ℕ) (at : ℕ) (s : Segment) (rest : List ℕ) → frames ≤ frame_counts.high →
    IsSegmentIn frames s → drop at file ≡ segment_bytes s ++ rest → segment_at frames file at ≡ Ok s
unfolding segment_at
segment_again frames file at s rest few inside e =
    let address : number_at file at ≡ Ok s.address =
    number_again file at s.address (word (length s.bytes) ++ (s.bytes ++ rest)) (omega (arith, inside.to_end)) e in
    let e4 : drop (at + 4) file ≡ word (length s.bytes) ++ (s.bytes ++ rest) =
    behind file at (word s.address) (word (length s.bytes) ++ (s.bytes ++ rest)) e in
    let e8 : drop (at + 8) file ≡ s.bytes ++ rest =
    behind file at (word s.address ++ word (length s.bytes)) (s.bytes ++ rest) e in
    let size : number_at file (at + 4) ≡ Ok (length s.bytes) =
    number_again file (at + 4) (length s.bytes) (s.bytes ++ rest) (omega (arith, inside.to_end, inside.from_start))
    e4 in
    let from_start : leb 0x80000000 s.address ≡ true = le-leb _ _ inside.from_start in
    let to_end : leb (s.address + length s.bytes) (0x80000000 + 4096 * frames) ≡ true = le-leb _ _ inside.to_end in
    rw (address, size, from_start, to_end, bytes_again file (at + 8) (length s.bytes) s.bytes rest e8 refl) refl

pub place_again : (frames pages : ℕ) (file : List ℕ) (at n : ℕ) (rest : List ℕ) → frames ≤ frame_counts.high → n + pages ≤ frames →
    drop at file ≡ word n ++ rest → place_at frames pages file at ≡ Ok n
unfolding place_at
place_again frames pages file at n rest few fits e =
    rw (number_again file at n rest (omega arith) e, le-leb (n + pages) frames fits) refl

pub base_again : (pages : ℕ) (file : List ℕ) (at n : ℕ) (rest : List ℕ) → 1 ≤ pages → n % 4096 ≡ 0 →
    n + 4096 * pages ≤ 2 ^ 32 → drop at file ≡ word n ++ rest → base_at pages file at ≡ Ok n
unfolding base_at
base_again pages file at n rest some multiple top e =
    let test : eqb (n % 4096) 0 ≡ true = eq-eqb _ _ multiple in
    rw (number_again file at n rest (omega arith) e, test, le-leb (n + 4096 * pages) (2 ^ 32) top) refl

key_again : (keys : Bool) (file : List ℕ) (at key : ℕ) (rest : List ℕ) → KeyFits keys key →
    drop at file ≡ key_text keys key ++ rest → key_at keys file at ≡ Ok key
unfolding key_at
key_again true file at key rest fits e = count_again file at key_numbers key rest (omega arith) (omega arith) (omega arith) e
key_again false file at key rest fits e = ap (λ k. Ok k) (sym fits)

pub program_again : (version frames : ℕ) (file : List ℕ) (at : ℕ) (p : Program) (rest : List ℕ) → frames ≤ frame_counts.high →
    IsProgramIn frames p × KeyFits (eqb version 2) p.key → drop at file ≡ program_bytes version p ++ rest →
    program_at (eqb version 2) frames file at ≡ Ok p
unfolding program_at
program_again version frames file at p rest few inside e =
    let keys = eqb version 2 in
    let fits = inside.0 in
    let x = p.start in
    let r24 = p.bytes ++ rest in
    let r20 = key_text keys p.key ++ r24 in
    let r16 = word x.sp ++ r20 in
    let r12 = word x.entry ++ r16 in
    let r8 = word x.base ++ r12 in
    let r4 = word p.place ++ r8 in
    let e0 : drop at file ≡ word x.pages ++ r4 =
    e ∙ ap (λ r. word x.pages ++ (word p.place ++ (word x.base ++ (word x.entry ++ (word x.sp ++ r)))))
    (append_assoc (key_text keys p.key) p.bytes rest) in
    let e4 = behind file at (word x.pages) r4 e0 in
    let e8 = behind file at (word x.pages ++ word p.place) r8 e0 in
    let e12 = behind file at (word x.pages ++ (word p.place ++ word x.base)) r12 e0 in
    let e16 = behind file at (word x.pages ++ (word p.place ++ (word x.base ++ word x.entry))) r16 e0 in
    let e20 = behind file at (word x.pages ++ (word p.place ++ (word x.base ++ (word x.entry ++ word x.sp)))) r20 e0 in
    let e24 : drop (at + 20 + key_size keys) file ≡ r24 =
    ap (λ n. drop (at + 20 + n) file) (sym (key_text-length keys p.key))
    ∙ behind file (at + 20) (key_text keys p.key) r24 e20 in
    let pages : count_at file at page_counts ≡ Ok x.pages =
    count_again file at page_counts x.pages r4 (omega arith) fits.some_pages fits.few_pages e0 in
    let place = place_again frames x.pages file (at + 4) p.place r8 few fits.place e4 in
    let base = base_again x.pages file (at + 8) x.base r12 fits.some_pages fits.base fits.top e8 in
    let entry = entry_again file (at + 12) x.entry r16 fits.entry fits.entry_fits e12 in
    let sp = number_again file (at + 16) x.sp r20 fits.sp_fits e16 in
    let key = key_again keys file (at + 20) p.key r24 inside.1 e20 in
    let bytes = pages_again file (at + 20 + key_size keys) x.pages p.bytes rest e24 fits.bytes in
    rw (pages, place, base, entry, sp, key, bytes) refl

-- parts one after the other
pub parts_again : {X : Type 0} (text : X → List ℕ) (Fits : X → Type 0) (file : List ℕ) (part_at : ℕ →
    Result X BundleFault) (size : X → ℕ)
    → ((at : ℕ) (x : X) (rest : List ℕ) → Fits x → drop at file ≡ text x ++ rest → part_at at ≡ Ok x) →
    ((x : X) → size x ≡ length (text x))
    → (xs : List X) (at : ℕ) (rest : List ℕ) → AllByRecursion Fits xs → drop at file ≡ flat_map text xs ++ rest
    → parts_at part_at size (length xs) at ≡ Ok (xs, at + length (flat_map text xs))
unfolding parts_at
parts_again text Fits file part_at size again sizes [] at rest fits e = ap (λ k. Ok ([], k)) (sym (add-zero at))
parts_again text Fits file part_at size again sizes (x ∷ xs) at rest fits e =
    let apart : drop at file ≡ text x ++ (flat_map text xs ++ rest) =
    e ∙ ap (λ t. t ++ rest) (flat_map-cons text x xs) ∙ append_assoc (text x) (flat_map text xs) rest in
    let first = again at x (flat_map text xs ++ rest) fits.0 apart in
    let next = at + size x in
    let after : drop next file ≡ flat_map text xs ++ rest =
    rw (sizes x) (behind file at (text x) (flat_map text xs ++ rest) apart) in
    let others = parts_again text Fits file part_at size again sizes xs next rest fits.1 after in
    let end : next + length (flat_map text xs) ≡ at + length (flat_map text (x ∷ xs)) =
    rw flat_map-cons (omega (arith, sizes x, length-append (text x) (flat_map text xs))) in
    rw (first, others) (ap (λ k. Ok (x ∷ xs, k)) end)
