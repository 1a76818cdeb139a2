-- The parts of program headers without a fault: they lie in the address space, and no two have an address in common.
use Rattle.std.proofs.Common.{◌≡◌, ℕ, zero, suc, ◌+◌, ◌^◌, ◌<◌, ◌≤◌, ◌==◌, ◌&&◌, Bool, true, false, cond, leb, ltb, not, List, []}
use Rattle.std.proofs.Common.{◌∷◌, ◌++◌, length, get_or, Some, None, refl, sym}
use Rattle.std.proofs.Common.{true≢false, subst, ◌∙◌, inl, inr, length-append, add-one, arith, All, AllPairs}
use Rattle.std.specs.List.{list_any}
use Rattle.std.proofs.lemmas.Bool.{leb-true, ltb-true, lt-ltb, cases_lt}
use Rattle.std.proofs.lemmas.List.{append-nil, length-take}
use Rattle.std.proofs.lemmas.List.Elements.{All-append, All-cons, All-nil}
use Rattle.std.proofs.lemmas.List.Folds.{list_any_at}
use Rattle.std.proofs.lemmas.List.Quantifiers.{all_pairs_push}
use Rattle.elf_image.specs.declared.fault.ElfFault.{ElfFault}
use Rattle.elf_image.specs.declared.fault.ElfCause.TheVariants as cause
use Rattle.elf_image.specs.Image.{Part, IsPart, IsIn, AreApart}
use Rattle.elf_image.specs.Elf.{word, rule, header_at, is_empty, is_loadable, part_at, overlap, part_fault}
use Rattle.elf_image.specs.Elf.{loaded, load_fault, parts, parts_fault}
use Rattle.elf_image.proofs.Rules.{first_of-none, rules-none, not-true}

-- ---- one more program header

pub parts-more : (file : List ℕ) (n : ℕ) → parts file (n + 1) ≡ parts file n ++ loaded file (header_at file n)
unfolding parts
parts-more file n = rw add-one refl

-- the first ones have no fault
pub fault-more : (file : List ℕ) (n : ℕ) → parts_fault file n ≡ None →
    parts_fault file (n + 1) ≡ load_fault file (parts file n) (header_at file n)
unfolding parts_fault
fault-more file n faultless = rw (add-one, faultless) refl

-- the first fault stays the first

stays : (file : List ℕ) (fault : ElfFault) (n m : ℕ) → n ≤ m → parts_fault file n ≡ Some fault →
    parts_fault file m ≡ Some fault
unfolding parts_fault
stays file fault n zero le e =
    let is : n ≡ zero = omega arith in
    subst (λ k. parts_fault file k ≡ Some fault) is e
stays file fault n (suc m) le e =
    elim (cases_lt n (suc m)) [
      | inl below ↦ rw (stays file fault n m (omega arith) e) refl
      | inr above ↦ let is : n ≡ suc m = omega arith in subst (λ k. parts_fault file k ≡ Some fault) is e
    ]

pub ends : (file : List ℕ) (fault : ElfFault) (n m : ℕ) → n < m → parts_fault file n ≡ None →
    load_fault file (parts file n) (header_at file n) ≡ Some fault → parts_fault file m ≡ Some fault
ends file fault n m lt faultless e = stays file fault (n + 1) m (omega arith) (fault-more file n faultless ∙ e)

-- ---- a part without a fault

-- what is known of a part that comes after others
pub record FitsAfter (before : List Part) (p : Part) : Type 0 where
  pub part : IsPart p
  pub apart : list_any (overlap p) before ≡ false
  pub room : length before < 16

-- what is not empty has bytes in memory, as it has no fewer there than in the file
some_bytes : (count size : ℕ) → count ≤ size → (count == 0 && size == 0) ≡ false → 1 ≤ size
some_bytes count zero le full =
    let none : count ≡ zero = omega arith in
    absurd (true≢false (subst (λ n. (n == 0 && 0 == 0) ≡ false) none full))
some_bytes count (suc n) le full = omega arith

-- a loadable part is not empty
is_full : (load empty : Bool) → (load && not empty) ≡ true → empty ≡ false
is_full true true e = cc
is_full true false e = refl
is_full false empty e = cc

fits_after : (file : List ℕ) (before : List Part) (at : ℕ) → is_loadable file at ≡ true →
    part_fault file before at ≡ None → FitsAfter before (part_at file at)
unfolding part_fault
fits_after file before at loadable e =
    let from = word file (at + 4) in
    let address = word file (at + 8) in
    let count = word file (at + 16) in
    let size = word file (at + 20) in
    let hit = list_any (overlap (part_at file at)) before in
    let r5 = rule (ltb (length before) 16) cause.TooManyParts at ∷ [] in
    let r4 = rule (not hit) cause.Overlap (at + 8) ∷ r5 in
    let r3 = rule (leb (address + size) (2 ^ 32)) cause.AddressesOutside (at + 8) ∷ r4 in
    let r2 = rule (leb count size) cause.MoreBytesThanSize (at + 16) ∷ r3 in
    let s1 = rules-none (leb (from + count) (length file)) cause.BytesOutside (at + 4) r2 e in
    let s2 = rules-none (leb count size) cause.MoreBytesThanSize (at + 16) r3 s1.1 in
    let s3 = rules-none (leb (address + size) (2 ^ 32)) cause.AddressesOutside (at + 8) r4 s2.1 in
    let s4 = rules-none (not hit) cause.Overlap (at + 8) r5 s3.1 in
    let s5 = rules-none (ltb (length before) 16) cause.TooManyParts at [] s4.1 in
    let few : count ≤ size = leb-true count size s2.0 in
    record {
      part = record {
        some = some_bytes count size few (is_full (word file at == 1) (is_empty file at) loadable);
        bytes = rw length-take (omega arith);
        end = leb-true (address + size) (2 ^ 32) s3.0;
      };
      apart = not-true hit s4.0;
      room = ltb-true (length before) 16 s5.0;
    }

-- ---- parts that have no address in common

common : (a b : Part) (address : ℕ) → IsIn address a → IsIn address b → overlap a b ≡ true
common a b address x y = lt-ltb _ _ (omega arith)

apart_at : (p : Part) (before : List Part) → list_any (overlap p) before ≡ false → (k : ℕ) (d : Part) →
    k < length before → AreApart (get_or before k d) p
apart_at p before none k d l = λ address x y.
    let hit : list_any (overlap p) before ≡ true =
    list_any_at (overlap p) before k d l (common p (get_or before k d) address y x) in
    cc

pub record Fit (ps : List Part) : Type 0 where
  pub few : length ps ≤ 16
  pub each : All IsPart ps
  pub apart : AllPairs AreApart ps

push : (ps : List Part) (p : Part) → Fit ps → FitsAfter ps p → Fit (ps ++ p ∷ [])
push ps p fit after = record {
  few = omega (arith, length-append ps (p ∷ []), after.room);
  each = All-append IsPart ps (p ∷ []) fit.each (All-cons IsPart p [] after.part (All-nil IsPart));
  apart = all_pairs_push AreApart ps p fit.apart (apart_at p ps after.apart);
}

chosen : (loadable : Bool) (file : List ℕ) (before : List Part) (at : ℕ) → is_loadable file at ≡ loadable →
    cond loadable (part_fault file before at) None ≡ None → Fit before →
    Fit (before ++ cond loadable (part_at file at ∷ []) [])
chosen true file before at is e fit = push before (part_at file at) fit (fits_after file before at is e)
chosen false file before at is e fit = subst Fit (sym (append-nil before)) fit

step : (file : List ℕ) (before : List Part) (at : ℕ) → load_fault file before at ≡ None → Fit before →
    Fit (before ++ loaded file at)
unfolding load_fault loaded
step file before at e fit = chosen (is_loadable file at) file before at refl e fit

pub fits : (file : List ℕ) (n : ℕ) → parts_fault file n ≡ None → Fit (parts file n)
unfolding parts parts_fault
fits file zero e = record {
  few = omega arith;
  each = All-nil IsPart;
  apart = λ i j d lt l. absurd (omega arith);
}
fits file (suc n) e =
    let both = first_of-none (parts_fault file n) (load_fault file (parts file n) (header_at file n)) e in
    step file (parts file n) (header_at file n) both.1 (fits file n both.0)
