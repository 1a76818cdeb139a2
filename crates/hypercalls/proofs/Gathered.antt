-- Loads that are gathered.
use Rattle.std.proofs.Common.{◌≡◌, ◌∙◌, ◌+◌, ◌*◌, ◌≤◌, ℕ, List, [], ◌∷◌, ◌++◌, length, take, slice_set, arith, refl, ap, sym, append_assoc}
use Rattle.std.specs.List.{flat_map}
use Rattle.std.proofs.lemmas.List.{append-nil, take_all, take_more_set, length-set}
use Rattle.std.proofs.lemmas.List.Concat.{flat_map-append}
use Rattle.cloak_model.specs.DomainState.{load_bytes}
use Rattle.domain_page.specs.Writing.{Appends}
use Rattle.domain_page.proofs.Written.{then}

-- a byte that is stored
one : (xs ys : List ℕ) (i j : ℕ) (x : ℕ) → length ys ≡ length xs → j ≡ i + 1 → j ≤ length xs → Appends ys (slice_set ys i x) i j (x ∷ [])
one xs ys i j x same next fits = record { end_is = next; bytes_are = rw next (take_more_set ys i x (omega (arith, same, next))) }

-- eight bytes that are stored one after another
pub eight : (xs : List ℕ) (at a b c d e f g h : ℕ) → at + 8 ≤ length xs
    → take (at + 8) (slice_set (slice_set (slice_set (slice_set (slice_set (slice_set (slice_set (slice_set xs at a) (at + 1) b) (at + 2) c) (at + 3) d) (at + 4) e) (at + 5) f) (at + 6) g) (at + 7) h)
    ≡ take at xs ++ (a ∷ b ∷ c ∷ d ∷ e ∷ f ∷ g ∷ h ∷ [])
eight xs at a b c d e f g h fits =
    let ys = slice_set xs at a in
    let zs = slice_set ys (at + 1) b in
    let us = slice_set zs (at + 2) c in
    let vs = slice_set us (at + 3) d in
    let ws = slice_set vs (at + 4) e in
    let rs = slice_set ws (at + 5) f in
    let ss = slice_set rs (at + 6) g in
    let l1 : length ys ≡ length xs = length-set xs at a in
    let l2 : length zs ≡ length xs = length-set ys (at + 1) b ∙ l1 in
    let l3 : length us ≡ length xs = length-set zs (at + 2) c ∙ l2 in
    let l4 : length vs ≡ length xs = length-set us (at + 3) d ∙ l3 in
    let l5 : length ws ≡ length xs = length-set vs (at + 4) e ∙ l4 in
    let l6 : length rs ≡ length xs = length-set ws (at + 5) f ∙ l5 in
    let l7 : length ss ≡ length xs = length-set rs (at + 6) g ∙ l6 in
    let all = then (one xs xs at (at + 1) a refl refl (omega (arith, fits)))
    (then (one xs ys (at + 1) (at + 2) b l1 (omega arith) (omega (arith, fits)))
    (then (one xs zs (at + 2) (at + 3) c l2 (omega arith) (omega (arith, fits)))
    (then (one xs us (at + 3) (at + 4) d l3 (omega arith) (omega (arith, fits)))
    (then (one xs vs (at + 4) (at + 5) e l4 (omega arith) (omega (arith, fits)))
    (then (one xs ws (at + 5) (at + 6) f l5 (omega arith) (omega (arith, fits)))
    (then (one xs rs (at + 6) (at + 7) g l6 (omega arith) (omega (arith, fits)))
    (one xs ss (at + 7) (at + 8) h l7 (omega arith) (omega (arith, fits))))))))) in
    all.bytes_are

module _ (taken old new : List ℕ) (place : ℕ) (loads : List (ℕ × ℕ)) (load : ℕ × ℕ)
    (stored : take (8 * place + 8) new ≡ take (8 * place) old ++ load_bytes load) (are : taken ++ take (8 * place) old ≡ flat_map load_bytes loads) where
  one_more : taken ++ take (8 * place + 8) new ≡ flat_map load_bytes (loads ++ load ∷ [])
  one_more =
      ap (λ (bytes : List ℕ). taken ++ bytes) stored
      ∙ sym (append_assoc taken (take (8 * place) old) (load_bytes load))
      ∙ ap (λ (bytes : List ℕ). bytes ++ load_bytes load) are
      ∙ ap (λ (bytes : List ℕ). flat_map load_bytes loads ++ bytes) (sym (append-nil (load_bytes load)))
      ∙ sym (flat_map-append load_bytes loads (load ∷ []))

  -- one load more is gathered
  pub gathered_more : (behind : ℕ) → behind ≡ place + 1 → taken ++ take (8 * behind) new ≡ flat_map load_bytes (loads ++ load ∷ [])
  gathered_more behind is =
      let at : 8 * behind ≡ 8 * place + 8 = omega (arith, is) in
      ap (λ n. taken ++ take n new) at ∙ one_more

  -- the hasher took the whole block
  pub taken_all : length new ≡ 64 → place ≡ 7 → (taken ++ new) ++ [] ≡ flat_map load_bytes (loads ++ load ∷ [])
  taken_all whole last =
      append-nil (taken ++ new)
      ∙ ap (λ (bytes : List ℕ). taken ++ bytes) (sym (take_all (8 * place + 8) new (omega (arith, whole, last))))
      ∙ one_more

pub ruleset lines = (append_assoc)
