-- The keys of a run are its first draws, or are handed in, and each page begins with the one that has the number of its
-- program's key.
use Rattle.std.proofs.Common.{◌≡◌, ◌∙◌, ℕ, zero, suc, ◌+◌, ◌<◌, ◌≤◌, inl, inr, List, [], ◌∷◌, ◌++◌, length, map, replicate, slice_get, slice_index_or, Option, Some, None, refl, sym, ap, subst, arith}
use Rattle.std.specs.Prelude.{option_and_then, option_map, All}
use Rattle.std.proofs.lemmas.List.{length-append, length-map, get_or-map, get_or-take, get_or_append_left}
use Rattle.std.proofs.lemmas.Bool.{cases_eq}
use Rattle.std.proofs.lemmas.Option.{slice_get_within, get_or_from_slice_get}
use Rattle.std.proofs.Math.Seq.{get_or-append_seam}
use Rattle.std.proofs.Math.Nat.{le-max_left, le-max_right}
use Rattle.cloak_base.specs.Random.{Random, next_draw}
use Rattle.cloak_base.specs.declared.names.PageId.{PageId}
use Rattle.cloak_model.specs.declared.image.Bundle.{Bundle}
use Rattle.cloak_model.specs.declared.image.Program.{Program}
use Rattle.cloak_model.specs.Beginning.{stored_keys}
use Rattle.cloak_model.specs.Bundle.{key_numbers, IsProgramIn}
use Rattle.cloak_model.specs.Ledger.{key_in}
use Rattle.cloak_model.specs.Opening.{key_count, drawn_keys, filled_up, keys_for}
use Rattle.page_law.specs.Ciphers.{numbered_draw, draw_at}
use Rattle.domain_isolation.proofs.Opened.{before}

-- These are the first draws of a stream, and what follows them.
pub record AreDrawn (n : ℕ) (stream : Random) (draw : List (List ℕ) × Random) : Type 0 where
  pub count : length draw.0 ≡ n
  pub each : (i : ℕ) → i < n → draw_at i stream ≡ Some (slice_index_or draw.0 i [])
  pub next : next_draw draw.1 ≡ numbered_draw n stream

one_more : (n : ℕ) (stream : Random) (keys : List (List ℕ) × Random) (next : Option (List ℕ × Random))
    (draw : List (List ℕ) × Random) → AreDrawn n stream keys → next_draw keys.1 ≡ next →
    option_map (λ (d : List ℕ × Random). (keys.0 ++ d.0 ∷ [], d.1)) next ≡ Some draw → AreDrawn (suc n) stream draw
one_more n stream keys None draw first is made = absurd cc
one_more n stream keys (Some d) draw first is made =
    let same : (keys.0 ++ d.0 ∷ [], d.1) ≡ draw = cc in
    let both = length-append keys.0 (d.0 ∷ []) in
    let count = first.count in
    let numbered : numbered_draw n stream ≡ Some d = sym first.next ∙ is in
    let last : slice_index_or (keys.0 ++ d.0 ∷ []) n [] ≡ d.0 =
    ap (λ (i : ℕ). slice_index_or (keys.0 ++ d.0 ∷ []) i []) (sym count) ∙ get_or-append_seam keys.0 d.0 [] [] in
    subst (AreDrawn (suc n) stream) same (record {
      count = omega (arith, both, count);
      each = λ i low. elim (cases_eq i n) [
        | inl here ↦
            subst (λ (k : ℕ). draw_at k stream ≡ Some (slice_index_or (keys.0 ++ d.0 ∷ []) k [])) (sym here)
            (ap (option_map (λ (x : List ℕ × Random). x.0)) numbered ∙ ap (λ (k : List ℕ). Some k) (sym last))
        | inr other ↦
            first.each i (omega (arith, low, other))
            ∙ ap (λ (k : List ℕ). Some k)
            (sym (get_or_append_left keys.0 (d.0 ∷ []) [] i (omega (arith, low, other, count))))
      ];
      next = sym (ap (option_and_then (λ (x : List ℕ × Random). next_draw x.1)) numbered);
    })

pub are_drawn : (n : ℕ) (stream : Random) (draw : List (List ℕ) × Random) → drawn_keys n stream ≡ Some draw →
    AreDrawn n stream draw
unfolding drawn_keys
are_drawn zero stream draw is =
    let same : ([], stream) ≡ draw = cc in
    subst (AreDrawn 0 stream) same
    (record { count = refl; each = λ i low. absurd (omega (arith, low)); next = refl })
are_drawn (suc n) stream draw is =
    let b = before (λ (keys : List (List ℕ) × Random).
    option_map (λ (d : List ℕ × Random). (keys.0 ++ d.0 ∷ [], d.1)) (next_draw keys.1)) (drawn_keys n stream) draw is in
    one_more n stream b.value (next_draw b.value.1) draw (are_drawn n stream b.value b.was) refl b.next

-- The numbers of programs' keys.

pub program_at : (frames : ℕ) (programs : List Program) → All (IsProgramIn frames) programs → (d : ℕ) (p : Program) →
    slice_get programs d ≡ Some p → IsProgramIn frames p
program_at frames programs all d p found =
    subst (IsProgramIn frames) (get_or_from_slice_get programs d p p found)
    (all d p (slice_get_within programs d p found))

key_below : (programs : List Program) (d : ℕ) (p : Program) → slice_get programs d ≡ Some p →
    p.key < key_count programs
key_below [] zero p found = absurd cc
key_below [] (suc d) p found = absurd cc
key_below (x ∷ programs) zero p found =
    let same : x ≡ p = cc in
    let number : x.key ≡ p.key = ap (λ (y : Program). y.key) same in
    let here = le-max_left (x.key + 1) (key_count programs) in
    omega (arith, number, here)
key_below (x ∷ programs) (suc d) p found =
    let rest = key_below programs d p found in
    let more = le-max_right (x.key + 1) (key_count programs) in
    omega (arith, rest, more)

filled_at : {A : Type 0} (x : A) (xs : List A) (i : ℕ) (d : A) → i < 4 → i < length xs →
    slice_index_or (filled_up x xs) i d ≡ slice_index_or xs i d
filled_at x xs i d few low = get_or-take 4 (xs ++ replicate 4 x) i d few ∙ get_or_append_left xs (replicate 4 x) d i low

group_is : (programs : List Program) (d : ℕ) (p : Program) → length programs ≤ 4 → slice_get programs d ≡ Some p →
    slice_index_or (filled_up 0 (map (λ (x : Program). x.key) programs)) d 0 ≡ p.key
group_is programs d p few found =
    let low = slice_get_within programs d p found in
    let long = length-map programs (λ (x : Program). x.key) in
    filled_at 0 (map (λ (x : Program). x.key) programs) d 0 (omega (arith, few, low)) (omega (arith, low, long))
    ∙ (get_or-map (λ (x : Program). x.key) programs d p 0 low
    ∙ ap (λ (x : Program). x.key) (get_or_from_slice_get programs d p p found))

-- the key of a page as a run begins
pub programs_have_keys : (programs : List Program) (stream : Random) (draw : List (List ℕ) × Random) →
    length programs ≤ 4 → ((d : ℕ) (p : Program) → slice_get programs d ≡ Some p → p.key ≤ key_numbers.high) →
    drawn_keys (key_count programs) stream ≡ Some draw → (page : PageId) (p : Program) →
    slice_get programs page.domain ≡ Some p →
    draw_at p.key stream ≡ Some (key_in (keys_for programs draw.0) page)
programs_have_keys programs stream draw few low is page p found =
    let drawn = are_drawn (key_count programs) stream draw is in
    let numbered : List (List ℕ) = filled_up (replicate 16 0) draw.0 in
    let below = key_below programs page.domain p found in
    let count = drawn.count in
    let few_keys : p.key ≤ 3 = low page.domain p found in
    let key : slice_index_or numbered p.key [] ≡ slice_index_or draw.0 p.key [] =
    filled_at (replicate 16 0) draw.0 p.key [] (omega arith) (omega (arith, below, count)) in
    drawn.each p.key below
    ∙ ap (λ (k : List ℕ). Some k)
    (sym (ap (λ (g : ℕ). slice_index_or numbered g []) (group_is programs page.domain p few found) ∙ key))

-- the same, if the keys are handed in
pub handed_keys : (b : Bundle) (keys : List (List ℕ)) → length b.programs ≤ 4 → (page : PageId) (p : Program) →
    slice_get b.programs page.domain ≡ Some p →
    Some (slice_index_or keys p.key []) ≡ Some (key_in (stored_keys b keys) page)
handed_keys b keys few page p found =
    ap (λ (g : ℕ). Some (slice_index_or keys g [])) (sym (group_is b.programs page.domain p few found))
