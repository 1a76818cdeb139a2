-- What a draw is, by the kind of its stream.
use Rattle.std.proofs.Common.{◌≡◌, ◌<◌, ◌≤◌, ◌+◌, ℕ, List, Option, None, Some, length, take, drop, refl, ◌∙◌, ap}
use Rattle.std.proofs.Common.{arith, true, false, nat_lt, MatchOption}
use Rattle.std.proofs.lemmas.Bool.Decides.{nat_tests}
use Rattle.std.proofs.lemmas.List.{drop-drop}
use Rattle.std.specs.Int.{w32, to_le_bytes}
use Rattle.rand_core.specs.Steps.{word_bytes}
use Rattle.rand_chacha.specs.ChaCha.{ChaCha, next_word}
use Rattle.cloak_base.specs.Random.{Random, handed, keyed, next_draw}

pub draw-keyed : (now after : Random) (g g' : ChaCha) (iv : List ℕ) → keyed g ≡ now → after ≡ keyed g' →
    (iv, g') ≡ word_bytes (to_le_bytes w32) (next_word 10) 4 g → next_draw now ≡ Some (iv, after)
unfolding next_draw
draw-keyed now after g g' iv was is d = rw (← was, is, ← d) refl

pub draw-handed : (now after : Random) (bytes : List ℕ) (at at' : ℕ) (res : Option (List ℕ)) →
    handed (drop at bytes) ≡ now → after ≡ handed (drop at' bytes) →
    MatchOption res ((length (drop at bytes) < 16) × (at' ≡ at))
    (λ iv. (16 ≤ length (drop at bytes)) × (iv ≡ take 16 (drop at bytes)) × (at' ≡ at + 16)) →
    MatchOption res ((next_draw now ≡ None) × (after ≡ now)) (λ iv. next_draw now ≡ Some (iv, after))
unfolding next_draw
draw-handed now after bytes at at' None was is h =
    let e : nat_lt (length (drop at bytes)) 16 ≡ true = (let short = h.0 in grind (arith, nat_tests)) in
    (rw (← was, e) refl, is ∙ ap (λ (k : ℕ). handed (drop k bytes)) h.1 ∙ was)
draw-handed now after bytes at at' (Some iv) was is h =
    let e : nat_lt (length (drop at bytes)) 16 ≡ false = (let enough = h.0 in grind (arith, nat_tests)) in
    rw (← was, is, h.2, h.1, e) (ap (λ (l : List ℕ). Some (take 16 (drop at bytes), handed l)) (drop-drop 16 at bytes))
