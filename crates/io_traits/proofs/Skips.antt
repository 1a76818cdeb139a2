-- What is left of a stream after n draws, by its kind: inductions on their number.
use Rattle.std.proofs.Common.{◌≡◌, ◌<◌, ◌≤◌, ◌+◌, ◌*◌, ◌%◌, ◌^◌, ℕ, zero, suc, true, false, List, Option, None, Some}
use Rattle.std.proofs.Common.{length, take, drop, refl, ◌∙◌, ap, sym, arith, nat_lt, inl, inr}
use Rattle.std.specs.Prelude.{option_and_then}
use Rattle.std.proofs.Math.Nat.{mod-lt, mod-eq_of_lt, mod-add-mod}
use Rattle.std.proofs.lemmas.Bool.{cases_lt}
use Rattle.std.proofs.lemmas.Bool.Decides.{nat_tests}
use Rattle.std.proofs.lemmas.List.{drop-drop, length-drop}
use Rattle.std.specs.Int.{w32, to_le_bytes}
use Rattle.rand_core.specs.Steps.{word_bytes}
use Rattle.rand_chacha.specs.ChaCha.{ChaCha, next_word}
use Rattle.cloak_base.specs.Random.{Random, handed, keyed, next_draw}
use Rattle.io_traits.specs.Skipping.{skipped}

-- Of a number.

-- the generator, n words later
abbrev pub words_on : ℕ → ChaCha → ChaCha
words_on k g = record g { word_pos = (g.word_pos + k) % 2 ^ 68 }

-- four steps round a circle
four_steps : (m p : ℕ) → ((((p + 1) % m + 1) % m + 1) % m + 1) % m ≡ (p + 4) % m
four_steps m p =
    let rest : ℕ → ℕ = λ k. k % m in
    let two : ((p + 1) % m + 1) % m ≡ (p + 2) % m =
    mod-add-mod (p + 1) m 1 ∙ ap rest (let e : p + 1 + 1 ≡ p + 2 = omega arith in e) in
    let three : ((p + 2) % m + 1) % m ≡ (p + 3) % m =
    mod-add-mod (p + 2) m 1 ∙ ap rest (let e : p + 2 + 1 ≡ p + 3 = omega arith in e) in
    let four : ((p + 3) % m + 1) % m ≡ (p + 4) % m =
    mod-add-mod (p + 3) m 1 ∙ ap rest (let e : p + 3 + 1 ≡ p + 4 = omega arith in e) in
    ap (λ (k : ℕ). ((k + 1) % m + 1) % m) two ∙ (ap (λ (k : ℕ). (k + 1) % m) three ∙ four)

draw_on : (g : ChaCha) → (iv : List ℕ) × (next_draw (keyed g) ≡ Some (iv, keyed (words_on 4 g)))
unfolding next_draw word_bytes
draw_on g =
    let iv : List ℕ = (word_bytes (to_le_bytes w32) (next_word 10) 4 g).0 in
    (iv, ap (λ (k : ℕ). Some (iv, keyed (record g { word_pos = k }))) (four_steps (2 ^ 68) g.word_pos))

skipped-keyed : (n : ℕ) (g : ChaCha) → g.word_pos < 2 ^ 68 → skipped n (keyed g) ≡ Some (keyed (words_on (4 * n) g))
unfolding skipped
skipped-keyed zero g inside =
    let none : g.word_pos + 4 * 0 ≡ g.word_pos = omega arith in
    let place = ap (λ (k : ℕ). k % 2 ^ 68) none ∙ mod-eq_of_lt inside in
    sym (ap (λ (k : ℕ). Some (keyed (record g { word_pos = k }))) place)
skipped-keyed (suc n) g inside =
    let drawn = draw_on g in
    let first = ap (λ (o : Option (List ℕ × Random)). option_and_then (λ (draw : List ℕ × Random). skipped n draw.1) o)
    drawn.1 in
    let all : g.word_pos + 4 + 4 * n ≡ g.word_pos + 4 * suc n = omega arith in
    let place = mod-add-mod (g.word_pos + 4) (2 ^ 68) (4 * n) ∙ ap (λ (k : ℕ). k % 2 ^ 68) all in
    first
    ∙ (skipped-keyed n (words_on 4 g) (mod-lt _ (omega arith))
    ∙ ap (λ (k : ℕ). Some (keyed (record g { word_pos = k }))) place)

-- as the body sees it
pub skips-keyed : (now after : Random) (n : ℕ) (g g' : ChaCha) → keyed g ≡ now → after ≡ keyed g' →
    g.word_pos < 2 ^ 68 → g' ≡ words_on (4 * n) g → skipped n now ≡ Some after
skips-keyed now after n g g' was is inside moved = rw (← was, is, moved) (skipped-keyed n g inside)

-- Of bytes.

draw_bytes : (bytes : List ℕ) → 16 ≤ length bytes →
    next_draw (handed bytes) ≡ Some (take 16 bytes, handed (drop 16 bytes))
unfolding next_draw
draw_bytes bytes enough =
    let e : nat_lt (length bytes) 16 ≡ false = grind (arith, nat_tests) in
    rw e refl

draw_none : (bytes : List ℕ) → length bytes < 16 → next_draw (handed bytes) ≡ None
unfolding next_draw
draw_none bytes few = let e : nat_lt (length bytes) 16 ≡ true = grind (arith, nat_tests) in rw e refl

-- what is left after one draw more
after_draw : (n : ℕ) (bytes : List ℕ) → 16 ≤ length bytes →
    skipped (suc n) (handed bytes) ≡ skipped n (handed (drop 16 bytes))
unfolding skipped
after_draw n bytes enough =
    ap (λ (o : Option (List ℕ × Random)). option_and_then (λ (draw : List ℕ × Random). skipped n draw.1) o)
    (draw_bytes bytes enough)

skipped-handed : (n : ℕ) (bytes : List ℕ) → 16 * n ≤ length bytes →
    skipped n (handed bytes) ≡ Some (handed (drop (16 * n) bytes))
unfolding skipped
skipped-handed zero bytes enough = refl
skipped-handed (suc n) bytes enough =
    let one : 16 ≤ length bytes = omega arith in
    let others : 16 * n ≤ length (drop 16 bytes) = rw length-drop (omega arith) in
    let all : 16 + 16 * n ≡ 16 * suc n = omega arith in
    after_draw n bytes one
    ∙ (skipped-handed n (drop 16 bytes) others
    ∙ ap (λ (l : List ℕ). Some (handed l)) (drop-drop (16 * n) 16 bytes ∙ ap (λ (k : ℕ). drop k bytes) all))

skipped-short : (n : ℕ) (bytes : List ℕ) → length bytes < 16 * n → skipped n (handed bytes) ≡ None
unfolding skipped
skipped-short zero bytes few = absurd (omega arith)
skipped-short (suc n) bytes few =
    elim (cases_lt (length bytes) 16) [
      | inl none ↦
          ap (λ (o : Option (List ℕ × Random)). option_and_then (λ (draw : List ℕ × Random). skipped n draw.1) o)
          (draw_none bytes none)
      | inr one ↦
          let others : length (drop 16 bytes) < 16 * n = rw length-drop (omega arith) in
          after_draw n bytes one ∙ skipped-short n (drop 16 bytes) others
    ]

-- as the body sees it
pub skips-handed : (now after : Random) (n : ℕ) (bytes : List ℕ) (at at' : ℕ) → handed (drop at bytes) ≡ now →
    after ≡ handed (drop at' bytes) → (16 * n ≤ length (drop at bytes)) × (at' ≡ at + 16 * n) →
    skipped n now ≡ Some after
skips-handed now after n bytes at at' was is h =
    rw (← was, is, h.1)
    (skipped-handed n (drop at bytes) h.0 ∙ ap (λ (l : List ℕ). Some (handed l)) (drop-drop (16 * n) at bytes))

pub skips-none : (now after : Random) (n : ℕ) (bytes : List ℕ) (at at' : ℕ) → handed (drop at bytes) ≡ now →
    after ≡ handed (drop at' bytes) → (length (drop at bytes) < 16 * n) × (at' ≡ at) →
    (skipped n now ≡ None) × (after ≡ now)
skips-none now after n bytes at at' was is h =
    (rw (← was) (skipped-short n (drop at bytes) h.0), is ∙ (ap (λ (k : ℕ). handed (drop k bytes)) h.1 ∙ was))
