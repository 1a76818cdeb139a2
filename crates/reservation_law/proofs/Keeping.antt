-- What stays of RAM and of reservations when RAM is written: the bytes and the words that the write spares.
use Rattle.std.proofs.Common.{◌≡◌, ◌∙◌, ◌<◌, ◌≤◌, ℕ, ◌+◌, ◌-◌, ◌*◌, ◌/◌, ◌%◌, Bool, true, false, ◌&&◌, List, [], ◌∷◌, ◌++◌, length, get_or, map, take, drop, replicate, slice_set, slice_index_or, Option, Some, None, inl, inr, refl, sym, ap, subst, arith, length-drop, length-append}
use Rattle.std.specs.Prelude.{◌==◌, ◌≢◌, if◌then◌else◌}
use Rattle.std.specs.Int.{w32, to_le_bytes, from_le_bytes}
use Rattle.std.specs.List.{AllByRecursion}
use Rattle.std.proofs.Math.ListN.{get_or-append, get_or-map}
use Rattle.std.proofs.Math.Seq.{take-suc}
use Rattle.std.proofs.lemmas.Bool.{cases_lt, ltb-true, lt-ltb, le-leb, eq-eqb, and_from}
use Rattle.std.proofs.lemmas.List.{get_or-append_right, get_or-take, get_or-drop, get_or_past, get_or-set_same, get_or-set_other, length-set, length-take}
use Rattle.cloak_base.specs.Constants.{ram_start, frame_of, place_of}
use Rattle.cloak_model.specs.Effect.{IsWidth}
use Rattle.cloak_model.specs.Memory.{Seen, value_in, value_at, with_value_in, mark_of, with_mark, word_at, unless_written, stored, filled}
use Rattle.reservation_law.specs.Writes.{Extent, has_byte, meets_word}
use Rattle.settling_ahead.proofs.Planning.{unmarked}
use Rattle.cloak_base.proofs.Lists.{each_append}

-- these writes leave the word at an address, and the byte

abbrev pub SparesWord : ℕ → List Extent → Type 0
SparesWord pa writes = AllByRecursion (λ (e : Extent). meets_word pa e ≡ false) writes

abbrev pub SparesByte : ℕ → List Extent → Type 0
SparesByte pa writes = AllByRecursion (λ (e : Extent). has_byte pa e ≡ false) writes

-- each frame has its 4096 bytes
pub record AreWhole (ram : List (List ℕ)) : Type 0 where
  pub long : (f : ℕ) → f < length ram → length (slice_index_or ram f []) ≡ 4096

-- No hart has a new reservation, nor one of a word that was written, and no other byte was.
pub record Keeps (writes : List Extent) (s t : Seen) : Type 0 where
  pub marks : (k pa : ℕ) → mark_of k t.marks ≡ Some pa →
      (mark_of k s.marks ≡ Some pa) × (pa % 4 ≡ 0 → SparesWord pa writes)
  pub whole : AreWhole s.ram → AreWhole t.ram
  pub bytes : AreWhole s.ram → (pa : ℕ) → ram_start ≤ pa → SparesByte pa writes →
      value_at t.ram pa 1 ≡ value_at s.ram pa 1

-- of two lists

pub all_first : {A : Type 0} (P : A → Type 0) (a b : List A) → AllByRecursion P (a ++ b) → AllByRecursion P a
all_first P [] b all = tt
all_first P (x ∷ a) b all = (all.0, all_first P a b all.1)

pub all_second : {A : Type 0} (P : A → Type 0) (a b : List A) → AllByRecursion P (a ++ b) → AllByRecursion P b
all_second P [] b all = all
all_second P (x ∷ a) b all = all_second P a b all.1

pub keeps_all : (s : Seen) → Keeps [] s s
keeps_all s = record { marks = λ k pa is. (is, λ at. tt); whole = λ all. all; bytes = λ all pa low spares. refl }

pub keeps_then : (a b : List Extent) (s t u : Seen) → Keeps a s t → Keeps b t u → Keeps (a ++ b) s u
keeps_then a b s t u first second = record {
  marks = λ k pa is.
      let later = second.marks k pa is in
      let before = first.marks k pa later.0 in
      (before.0, λ at. each_append (λ (e : Extent). meets_word pa e ≡ false) a b (before.1 at) (later.1 at));
  whole = λ all. second.whole (first.whole all);
  bytes = λ all pa low spares.
      second.bytes (first.whole all) pa low (all_second (λ (e : Extent). has_byte pa e ≡ false) a b spares)
      ∙ first.bytes all pa low (all_first (λ (e : Extent). has_byte pa e ≡ false) a b spares);
}

-- Extents.

abbrev pub whole_frame : ℕ → Extent
whole_frame f = record { from = ram_start + 4096 * f; count = 4096 }

not_both : (a b : Bool) → (a ≡ true → b ≡ true → ⊥) → (a && b) ≡ false
not_both true true clash = absurd (clash refl refl)
not_both true false clash = refl
not_both false b clash = refl

clashing : (b : Bool) → b ≡ true → b ≡ false → ⊥
clashing true is not = cc
clashing false is not = cc

word_of_store : (pa width mark : ℕ) → pa % width ≡ 0 → IsWidth width → mark % 4 ≡ 0 → pa < mark + 4 →
    mark < pa + width →
    mark ≡ pa / 4 * 4
word_of_store pa width mark at (inl one) aligned low high =
    let high' = subst (λ (n : ℕ). mark < pa + n) one high in omega (arith, aligned, low, high')
word_of_store pa width mark at (inr (inl two)) aligned low high =
    let at' = subst (λ (n : ℕ). pa % n ≡ 0) two at in
    let high' = subst (λ (n : ℕ). mark < pa + n) two high in omega (arith, at', aligned, low, high')
word_of_store pa width mark at (inr (inr four)) aligned low high =
    let at' = subst (λ (n : ℕ). pa % n ≡ 0) four at in
    let high' = subst (λ (n : ℕ). mark < pa + n) four high in omega (arith, at', aligned, low, high')

store_spares : (pa width mark : ℕ) → pa % width ≡ 0 → IsWidth width → mark % 4 ≡ 0 → (mark == word_at pa) ≡ false →
    SparesWord mark (record { from = pa; count = width } ∷ [])
store_spares pa width mark at is aligned other = (
  not_both _ _ (λ low high.
      clashing _ (eq-eqb _ _ (word_of_store pa width mark at is aligned (ltb-true _ _ low)
      (ltb-true _ _ high))) other),
  tt,
)

frame_spares : (f mark : ℕ) → mark % 4 ≡ 0 → (frame_of mark == f) ≡ false →
    SparesWord mark (whole_frame f ∷ [])
frame_spares f mark aligned other = (
  not_both _ _ (λ low high.
      let low' : ram_start + 4096 * f < mark + 4 = ltb-true (ram_start + 4096 * f) (mark + 4) low in
      let high' : mark < ram_start + 4096 * f + 4096 = ltb-true mark (ram_start + 4096 * f + 4096) high in
      clashing (frame_of mark == f) (eq-eqb (frame_of mark) f (omega (arith, aligned, low', high'))) other),
  tt,
)

frame_apart : (f pa : ℕ) → ram_start ≤ pa → SparesByte pa (whole_frame f ∷ []) →
    frame_of pa ≢ f
frame_apart f pa low spares same =
    clashing _ (and_from _ _ (le-leb (ram_start + 4096 * f) pa (omega (arith, low, same)))
    (lt-ltb pa (ram_start + 4096 * f + 4096) (omega (arith, low, same)))) spares.0

-- Reservations.

mark_left : (written : ℕ → Bool) (mark : Option ℕ) (pa : ℕ) → unless_written written mark ≡ Some pa →
    (mark ≡ Some pa) × (written pa ≡ false)
mark_left written None pa is = absurd cc
mark_left written (Some m) pa is = by (written m) refl is
  where
    by : (b : Bool) → written m ≡ b → (if b then None else Some m) ≡ Some pa → (Some m ≡ Some pa) ×
        (written pa ≡ false)
    by true test left = absurd cc
    by false test left =
        let same : m ≡ pa = cc in (left, subst (λ (n : ℕ). written n ≡ false) same test)

pub marks_left : (written : ℕ → Bool) (marks : List (Option ℕ)) (k pa : ℕ) →
    mark_of k (map (unless_written written) marks) ≡ Some pa → (mark_of k marks ≡ Some pa) × (written pa ≡ false)
marks_left written marks k pa is =
    mark_left written (mark_of k marks) pa (sym (get_or-map (unless_written written) marks k None) ∙ is)

-- a reservation that ends
pub mark_ended : (hart : ℕ) (marks : List (Option ℕ)) (k pa : ℕ) → mark_of k (with_mark hart None marks) ≡ Some pa →
    mark_of k marks ≡ Some pa
mark_ended hart marks k pa is = elim (cases_lt k hart) [
  | inl less ↦ sym (get_or-set_other marks hart k None None (λ same. omega (arith, same, less))) ∙ is
  | inr more ↦ elim (cases_lt hart k) [
    | inl greater ↦ sym (get_or-set_other marks hart k None None (λ same. omega (arith, same, greater))) ∙ is
    | inr le ↦
        let same : k ≡ hart = omega (arith, more, le) in
        elim (cases_lt hart (length marks)) [
          | inl there ↦
              let none : mark_of hart (with_mark hart None marks) ≡ None =
              get_or-set_same marks hart None None there in
              let some = subst (λ (n : ℕ). mark_of n (with_mark hart None marks) ≡ Some pa) same is in
              let clash : None ≡ Some pa = sym none ∙ some in absurd cc
          | inr past ↦
              let count = length-set marks hart None in
              let none : mark_of hart (with_mark hart None marks) ≡ None =
              get_or_past (with_mark hart None marks) hart None (omega (arith, past, count)) in
              let some = subst (λ (n : ℕ). mark_of n (with_mark hart None marks) ≡ Some pa) same is in
              let clash : None ≡ Some pa = sym none ∙ some in absurd cc
        ]
  ]
]

pub keeps_unmarked : (hart : ℕ) (s : Seen) → Keeps [] s (unmarked hart s)
keeps_unmarked hart s = record {
  marks = λ k pa is. (mark_ended hart s.marks k pa is, λ at. tt);
  whole = λ all. all;
  bytes = λ all pa low spares. refl;
}

-- Frames.

pub whole_set : (ram : List (List ℕ)) (f : ℕ) (bytes : List ℕ) → (f < length ram → length bytes ≡ 4096) →
    AreWhole ram →
    AreWhole (slice_set ram f bytes)
whole_set ram f bytes long all = record {
  long = λ g less.
      let count = length-set ram f bytes in
      let less' : g < length ram = omega (arith, less, count) in
      elim (cases_lt g f) [
        | inl below ↦ ap length (get_or-set_other ram f g bytes [] (λ same. omega (arith, same, below)))
            ∙ all.long g less'
        | inr not_below ↦ elim (cases_lt f g) [
          | inl above ↦ ap length (get_or-set_other ram f g bytes [] (λ same. omega (arith, same, above)))
              ∙ all.long g less'
          | inr not_above ↦
              let same : f ≡ g = omega (arith, not_below, not_above) in
              let there : f < length ram = omega (arith, same, less') in
              subst (λ (n : ℕ). length (slice_index_or (slice_set ram f bytes) n []) ≡ 4096) same
              (ap length (get_or-set_same ram f bytes [] there) ∙ long there)
        ]
      ];
}

pub keeps_filled : (f : ℕ) (bytes : List ℕ) (s : Seen) → length bytes ≡ 4096 →
    Keeps (whole_frame f ∷ []) s (filled f bytes s)
keeps_filled f bytes s long = record {
  marks = λ k pa is.
      let left = marks_left (λ mark. frame_of mark == f) s.marks k pa is in
      (left.0, λ at. frame_spares f pa at left.1);
  whole = λ all. whole_set s.ram f bytes (λ there. long) all;
  bytes = λ all pa low spares.
      ap (λ (page : List ℕ). value_in page (place_of pa) 1)
      (get_or-set_other s.ram f (frame_of pa) bytes [] (frame_apart f pa low spares));
}

-- Stores.

small_width : (width : ℕ) → IsWidth width → width ≤ 4
small_width width (inl e) = omega (arith, e)
small_width width (inr (inl e)) = omega (arith, e)
small_width width (inr (inr e)) = omega (arith, e)

-- an aligned store does not leave its frame
store_inside : (pa width : ℕ) → pa % width ≡ 0 → IsWidth width → place_of pa + width ≤ 4096
store_inside pa width at (inl one) = omega (arith, one)
store_inside pa width at (inr (inl two)) =
    let at' = subst (λ (n : ℕ). pa % n ≡ 0) two at in omega (arith, two, at')
store_inside pa width at (inr (inr four)) =
    let at' = subst (λ (n : ℕ). pa % n ≡ 0) four at in omega (arith, four, at')

stored_whole : (old : List ℕ) (from width value : ℕ) → length old ≡ 4096 → IsWidth width → from + width ≤ 4096 →
    length (with_value_in old from width value) ≡ 4096
stored_whole old from width value whole is inside =
    let small = small_width width is in
    let middle : List ℕ = take width (to_le_bytes w32 value) in
    let a = length-append (take from old) (middle ++ drop (from + width) old) in
    let b = length-append middle (drop (from + width) old) in
    let c = length-take from old in
    let d = length-take width (to_le_bytes w32 value) in
    let e = length-drop (from + width) old in
    omega (arith, small, inside, whole, a, b, c, d, e)

-- a byte that is not among those
other_byte : (old : List ℕ) (from width value at : ℕ) → length old ≡ 4096 → IsWidth width → from + width ≤ 4096 →
    (from ≤ at → at < from + width → ⊥) → get_or (with_value_in old from width value) at 0 ≡ get_or old at 0
other_byte old from width value at whole is inside out =
    let small = small_width width is in
    let middle : List ℕ = take width (to_le_bytes w32 value) in
    let tail : List ℕ = middle ++ drop (from + width) old in
    let head_len : length (take from old) ≡ from = omega (arith, length-take from old, whole, inside) in
    let mid_len : length middle ≡ width = omega (arith, length-take width (to_le_bytes w32 value), small) in
    elim (cases_lt at from) [
      | inl before ↦
          get_or-append (take from old) tail 0 at (omega (arith, before, head_len)) ∙ get_or-take from old at 0 before
      | inr behind ↦ elim (cases_lt at (from + width)) [
        | inl inner ↦ absurd (out behind inner)
        | inr past ↦
            let there : from + width + (at - from - width) ≡ at = omega (arith, past) in
            get_or-append_right (take from old) tail from at 0 head_len behind
            ∙ get_or-append_right middle (drop (from + width) old) width (at - from) 0 mid_len (omega (arith, past))
            ∙ get_or-drop (from + width) old (at - from - width) 0 ∙ ap (λ (k : ℕ). get_or old k 0) there
      ]
    ]

one_byte : (page : List ℕ) (at : ℕ) → at < length page → value_in page at 1 ≡ from_le_bytes w32
    (get_or page at 0 ∷ replicate 3 0)
one_byte page at less =
    let left = length-drop at page in
    ap (λ (bytes : List ℕ). from_le_bytes w32 (bytes ++ replicate 3 0))
    (take-suc (drop at page) 0 0 (omega (arith, less, left)) ∙ ap (λ (b : ℕ). b ∷ []) (get_or-drop at page 0 0
    ∙ ap (λ (k : ℕ). get_or page k 0) (omega arith)))

same_value : (page page' : List ℕ) (at : ℕ) → length page ≡ 4096 → length page' ≡ 4096 → at < 4096 →
    get_or page' at 0 ≡ get_or page at 0 → value_in page' at 1 ≡ value_in page at 1
same_value page page' at long long' less same =
    one_byte page' at (omega (arith, long', less))
    ∙ ap (λ (b : ℕ). from_le_bytes w32 (b ∷ replicate 3 0)) same
    ∙ sym (one_byte page at (omega (arith, long, less)))

-- in the frame of a store
in_frame : (pa width value at : ℕ) (ram : List (List ℕ)) → AreWhole ram → ram_start ≤ pa → pa % width ≡ 0 →
    IsWidth width →
    ram_start ≤ at → frame_of at ≡ frame_of pa → SparesByte at (record { from = pa; count = width } ∷ []) →
    let f = frame_of pa in let page = slice_index_or ram f [] in
    value_in (slice_index_or (slice_set ram f (with_value_in page (place_of pa) width value)) f []) (place_of at) 1
    ≡ value_in page (place_of at) 1
in_frame pa width value at ram all start aligned is low same spares =
    let f : ℕ = frame_of pa in
    let page : List ℕ = slice_index_or ram f [] in
    let new : List ℕ = with_value_in page (place_of pa) width value in
    let inside = store_inside pa width aligned is in
    elim (cases_lt f (length ram)) [
      | inl there ↦
          let long = all.long f there in
          ap (λ (p : List ℕ). value_in p (place_of at) 1) (get_or-set_same ram f new [] there)
          ∙ same_value page new (place_of at) long (stored_whole page (place_of pa) width value long is inside)
          (omega arith)
          (other_byte page (place_of pa) width value (place_of at) long is inside
          (λ first last. clashing _ (and_from _ _ (le-leb pa at (omega (arith, start, low, same, first)))
          (lt-ltb at (pa + width) (omega (arith, start, low, same, last)))) spares.0))
      | inr past ↦
          let count = length-set ram f new in
          ap (λ (p : List ℕ). value_in p (place_of at) 1)
          (get_or_past (slice_set ram f new) f [] (omega (arith, past, count)) ∙ sym (get_or_past ram f [] past))
    ]

stored_bytes : (pa width value : ℕ) (s : Seen) → ram_start ≤ pa → pa % width ≡ 0 → IsWidth width → AreWhole s.ram →
    (at : ℕ) →
    ram_start ≤ at → SparesByte at (record { from = pa; count = width } ∷ []) →
    value_at (stored pa width value s).ram at 1 ≡ value_at s.ram at 1
stored_bytes pa width value s start aligned is all at low spares =
    let f : ℕ = frame_of pa in
    let new : List ℕ = with_value_in (slice_index_or s.ram f []) (place_of pa) width value in
    let other : frame_of at ≢ f → value_at (stored pa width value s).ram at 1 ≡ value_at s.ram at 1 =
    λ apart. ap (λ (p : List ℕ). value_in p (place_of at) 1) (get_or-set_other s.ram f (frame_of at) new [] apart) in
    elim (cases_lt (frame_of at) f) [
      | inl below ↦ other (λ same. omega (arith, same, below))
      | inr not_below ↦ elim (cases_lt f (frame_of at)) [
        | inl above ↦ other (λ same. omega (arith, same, above))
        | inr not_above ↦
            let same : frame_of at ≡ f = omega (arith, not_below, not_above) in
            subst (λ (g : ℕ). value_in (slice_index_or (slice_set s.ram f new) g []) (place_of at) 1
            ≡ value_in (slice_index_or s.ram g []) (place_of at) 1) (sym same)
            (in_frame pa width value at s.ram all start aligned is low same spares)
      ]
    ]

pub keeps_stored : (pa width value : ℕ) (s : Seen) → ram_start ≤ pa → pa % width ≡ 0 → IsWidth width →
    Keeps (record { from = pa; count = width } ∷ []) s (stored pa width value s)
keeps_stored pa width value s start aligned is = record {
  marks = λ k mark there.
      let left = marks_left (λ mark. mark == word_at pa) s.marks k mark there in
      (left.0, λ at. store_spares pa width mark aligned is at left.1);
  whole = λ all. whole_set s.ram (frame_of pa) _
      (λ there. stored_whole _ (place_of pa) width value (all.long (frame_of pa) there) is
      (store_inside pa width aligned is))
      all;
  bytes = λ all at low spares. stored_bytes pa width value s start aligned is all at low spares;
}
