-- What is drawn from the stream of a number.
use Rattle.std.proofs.Common.{◌≡◌, ◌<◌, ◌≤◌, ◌+◌, ◌-◌, ◌%◌, ◌^◌, ℕ, List, ◌++◌, get_or, slice_set, length, ◌≢◌, below_more, get_or-set_other, get_or-set_same, true, false, nat_lt, ap, ◌∙◌, refl, sym, arith, zero-add}
use Rattle.std.specs.Prelude.{replicate}
use Rattle.std.specs.Int.{w64, to_le_bytes}
use Rattle.std.proofs.Math.ListN.{length-set}
use Rattle.std.proofs.Math.Nat.{mod-lt, mod-eq_of_lt}
use Rattle.std.proofs.lemmas.Bool.Decides.{nat_tests}
use Rattle.rand_chacha.specs.ChaCha.{ChaCha, key_of, next_word, word_at}
use Rattle.cloak_base.specs.Random.{numbered}
use Rattle.guest_kernel.specs.Drawing.{hart_count, drawn_word, hart_of_turn, rounds_of}

-- the generator of number n after its first k words
abbrev pub behind_words : ℕ → ℕ → ChaCha
behind_words n k = record { key = key_of (to_le_bytes w64 n ++ replicate 24 0); stream = 0; word_pos = k }

pub drawn : (n k w : ℕ) (g g' : ChaCha) → k < 2 ^ 64 → g ≡ behind_words n k → (w, g') ≡ next_word 10 g →
    w ≡ drawn_word n k
unfolding drawn_word numbered
drawn n k w g g' few is draw =
    let place : (0 + k) % 2 ^ 68 ≡ k = mod-eq_of_lt (omega arith) ∙ zero-add k in
    ap (λ (x : ℕ × ChaCha). x.0) (draw ∙ ap (next_word 10) is)
    ∙ sym (ap (λ (i : ℕ). word_at 10 (key_of (to_le_bytes w64 n ++ replicate 24 0)) 0 i) place)

pub drawn_behind : (n k w : ℕ) (g g' : ChaCha) → k < 2 ^ 64 → g ≡ behind_words n k → (w, g') ≡ next_word 10 g →
    g' ≡ behind_words n (k + 1)
drawn_behind n k w g g' few is draw =
    let place : (k + 1) % 2 ^ 68 ≡ k + 1 = mod-eq_of_lt (omega arith) in
    ap (λ (x : ℕ × ChaCha). x.1) (draw ∙ ap (next_word 10) is) ∙ ap (behind_words n) place

pub more_drawn : (n i word : ℕ) (words : List ℕ) → i < length words →
    ((k : ℕ) → k < i → get_or words k 0 ≡ drawn_word n k) → word ≡ drawn_word n i →
    (k : ℕ) → k < i + 1 → get_or (slice_set words i word) k 0 ≡ drawn_word n k
more_drawn n i word words low before here =
    below_more _ _ (λ k h. let ne : k ≢ i = omega arith in rw get_or-set_other (before k h))
    (rw get_or-set_same here)

pub same_count : (i word : ℕ) (words : List ℕ) → length words ≡ 19 → length (slice_set words i word) ≡ 19
same_count i word words count = length-set words i word ∙ count

-- the hart of a turn

pub early_turn : (n turn harts : ℕ) → harts ≡ hart_count n → turn < harts → turn ≡ hart_of_turn n turn
unfolding hart_of_turn
early_turn n turn harts is low =
    let early : nat_lt turn (hart_count n) ≡ true = grind (arith, nat_tests) in rw early refl

pub later_turn : (n turn harts word : ℕ) → harts ≡ hart_count n → harts ≤ turn → word ≡ drawn_word n (turn - harts) →
    word % harts ≡ hart_of_turn n turn
unfolding hart_of_turn
later_turn n turn harts word is high drawn =
    let early : nat_lt turn (hart_count n) ≡ false = grind (arith, nat_tests) in rw (drawn, is, early) refl

-- each turn is a hart's
pub hart_of_turn-lt : (n turn : ℕ) → hart_of_turn n turn < hart_count n
unfolding hart_of_turn
hart_of_turn-lt n turn =
    let rest : drawn_word n (turn - hart_count n) % hart_count n < hart_count n = mod-lt _ (omega arith) in
    grind (arith, nat_tests)

pub rounds_are : (n d harts word : ℕ) → harts ≡ hart_count n → word ≡ drawn_word n (16 - harts + d) →
    16 + word % 48 ≡ rounds_of n d
unfolding rounds_of
rounds_are n d harts word is drawn = rw (drawn, is) refl
