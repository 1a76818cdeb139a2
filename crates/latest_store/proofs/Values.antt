-- The bytes of a page after a store, and of a value that is read.
use Rattle.std.proofs.Common.{◌≡◌, ◌∙◌, ℕ, zero, suc, ◌+◌, ◌-◌, ◌<◌, ◌≤◌, true, false, cond, ltb, leb, inl, inr, List, ◌++◌, length, get_or, take, drop, replicate, refl, sym, ap, length-drop, length-append, arith}
use Rattle.std.specs.Int.{w32, to_le_bytes, from_le_bytes}
use Rattle.std.proofs.Math.ListN.{get_or-append}
use Rattle.std.proofs.lemmas.Bool.{cases_lt, lt-ltb, le-ltb, le-leb, lt-leb}
use Rattle.std.proofs.lemmas.List.{get_or-append_right, get_or-take, get_or-drop, get_or_past, get_or-replicate, length-replicate, length-take}
use Rattle.cloak_base.specs.Pages.{zero_page}
use Rattle.cloak_base.specs.declared.names.PageId.{PageId}
use Rattle.cloak_model.specs.Effect.{IsWidth}
use Rattle.cloak_model.specs.Memory.{value_in, with_value_in}
use Rattle.latest_store.specs.Moves.{Move, covers, bytes_from, latest, latest_value}
use Rattle.latest_store.specs.LatestStore.{IsLatest}

-- a place and a width inside a page
pub record IsPlace (from width : ℕ) : Type 0 where
  pub is_width : IsWidth width
  pub inside : from + width ≤ 4096

small_width : (width : ℕ) → IsWidth width → width ≤ 4
small_width width (inl e) = omega (arith, e)
small_width width (inr (inl e)) = omega (arith, e)
small_width width (inr (inr e)) = omega (arith, e)

-- a byte of a page after a store
pub stored_byte : (old : List ℕ) (from width value at : ℕ) → length old ≡ 4096 → IsPlace from width →
    get_or (with_value_in old from width value) at 0
    ≡ cond (covers from width at) (get_or (to_le_bytes w32 value) (at - from) 0) (get_or old at 0)
stored_byte old from width value at whole place =
    let small = small_width width place.is_width in
    let inside = place.inside in
    let middle : List ℕ = take width (to_le_bytes w32 value) in
    let tail : List ℕ = middle ++ drop (from + width) old in
    let head_len : length (take from old) ≡ from = omega (arith, length-take from old, whole, inside) in
    let mid_len : length middle ≡ width = omega (arith, length-take width (to_le_bytes w32 value), small) in
    elim (cases_lt at from) [
      | inl before ↦
          let no : leb from at ≡ false = lt-leb from at before in
          get_or-append (take from old) tail 0 at (omega (arith, before, head_len))
          ∙ get_or-take from old at 0 before ∙ sym (rw no refl)
      | inr behind ↦
          let yes : leb from at ≡ true = le-leb from at behind in
          let skip : get_or (take from old ++ tail) at 0 ≡ get_or tail (at - from) 0 =
          get_or-append_right (take from old) tail from at 0 head_len behind in
          elim (cases_lt at (from + width)) [
            | inl inner ↦
                let test : ltb at (from + width) ≡ true = lt-ltb at (from + width) inner in
                skip
                ∙ get_or-append middle (drop (from + width) old) 0 (at - from) (omega (arith, inner, behind, mid_len))
                ∙ get_or-take width (to_le_bytes w32 value) (at - from) 0 (omega (arith, inner, behind))
                ∙ sym (rw (yes, test) refl)
            | inr past ↦
                let test : ltb at (from + width) ≡ false = le-ltb at (from + width) past in
                let there : from + width + (at - from - width) ≡ at = omega (arith, past) in
                skip
                ∙ get_or-append_right middle (drop (from + width) old) width (at - from) 0 mid_len
                (omega (arith, past))
                ∙ get_or-drop (from + width) old (at - from - width) 0 ∙ ap (λ (k : ℕ). get_or old k 0) there
                ∙ sym (rw (yes, test) refl)
          ]
    ]

pub stored_whole : (old : List ℕ) (from width value : ℕ) → length old ≡ 4096 → IsPlace from width →
    length (with_value_in old from width value) ≡ 4096
stored_whole old from width value whole place =
    let small = small_width width place.is_width in
    let inside = place.inside in
    let middle : List ℕ = take width (to_le_bytes w32 value) in
    let a = length-append (take from old) (middle ++ drop (from + width) old) in
    let b = length-append middle (drop (from + width) old) in
    let c = length-take from old in
    let d = length-take width (to_le_bytes w32 value) in
    let e = length-drop (from + width) old in
    omega (arith, small, inside, whole, a, b, c, d, e)

-- zeros

pub zeros_at : (n i : ℕ) → ◌≡◌ {A = ℕ} (get_or (replicate n 0) i 0) 0
zeros_at n i = elim (cases_lt i n) [
  | inl less ↦ get_or-replicate {A = ℕ} n i 0 0 less
  | inr past ↦ get_or_past {X = ℕ} (replicate n 0) i 0 (omega (arith, past, length-replicate {A = ℕ} n 0))
]

pub zero_page_at : (i : ℕ) → get_or zero_page i 0 ≡ 0
unfolding zero_page
zero_page_at i = zeros_at 4096 i

pub zero_page_whole : length zero_page ≡ 4096
unfolding zero_page
zero_page_whole = length-replicate {A = ℕ} 4096 0

-- A value that is read.

inner_at : (width k i : ℕ) (bytes : List ℕ) → i < width →
    get_or (take width bytes ++ replicate k 0) i 0 ≡ get_or bytes i 0
inner_at width k i bytes less = elim (cases_lt i (length bytes)) [
  | inl there ↦
      get_or-append (take width bytes) (replicate k 0) 0 i (omega (arith, less, there, length-take width bytes))
      ∙ get_or-take width bytes i 0 less
  | inr past ↦
      get_or-append_right (take width bytes) (replicate k 0) (length (take width bytes)) i 0 refl
      (omega (arith, past, length-take width bytes))
      ∙ zeros_at k (i - length (take width bytes)) ∙ sym (get_or_past {X = ℕ} bytes i 0 past)
]

outer_at : (width k i : ℕ) (bytes : List ℕ) → width ≤ i → get_or (take width bytes ++ replicate k 0) i 0 ≡ 0
outer_at width k i bytes past =
    get_or-append_right (take width bytes) (replicate k 0) (length (take width bytes)) i 0 refl
    (omega (arith, past, length-take width bytes)) ∙ zeros_at k (i - length (take width bytes))

pub byte_from : (byte : ℕ → ℕ) (at width i : ℕ) → i < width → get_or (bytes_from byte at width) i 0 ≡ byte (at + i)
byte_from byte at zero i less = absurd (omega (arith, less))
byte_from byte at (suc n) zero less = ap byte (omega arith)
byte_from byte at (suc n) (suc i) less =
    byte_from byte (at + 1) n i (omega (arith, less)) ∙ ap byte (omega arith)

pub past_bytes : (byte : ℕ → ℕ) (at width i : ℕ) → width ≤ i → get_or (bytes_from byte at width) i 0 ≡ 0
past_bytes byte at zero i past = refl
past_bytes byte at (suc n) zero past = absurd (omega (arith, past))
past_bytes byte at (suc n) (suc i) past = past_bytes byte (at + 1) n i (omega (arith, past))

-- numbers of the same four bytes are one
pub four_bytes : (xs ys : List ℕ) → ((i : ℕ) → get_or xs i 0 ≡ get_or ys i 0) →
    from_le_bytes w32 xs ≡ from_le_bytes w32 ys
four_bytes xs ys same =
    let a = same 0 in let b = same 1 in let c = same 2 in let d = same 3 in rw (a, b, c, d) refl

-- what is read of a page whose bytes were stored last
pub read_value : (history : List Move) (q : PageId) (page : List ℕ) (at width : ℕ) → IsLatest history q page →
    value_in page at width ≡ latest_value history q at width
read_value history q page at width is =
    four_bytes (take width (drop at page) ++ replicate (4 - width) 0) (bytes_from (latest history q) at width) (λ i.
    elim (cases_lt i width) [
      | inl less ↦
          inner_at width (4 - width) i (drop at page) less ∙ get_or-drop at page i 0 ∙ is.each (at + i)
          ∙ sym (byte_from (latest history q) at width i less)
      | inr past ↦
          outer_at width (4 - width) i (drop at page) past ∙ sym (past_bytes (latest history q) at width i past)
    ])
