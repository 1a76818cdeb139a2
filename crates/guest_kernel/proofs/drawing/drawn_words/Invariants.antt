use Rattle.std.proofs.Common.{◌≡◌, ◌<◌, ℕ, get_or, length}
use Rattle.guest_kernel.specs.Drawing.{drawn_word}
use Rattle.guest_kernel.proofs.Drawn.{behind_words}
use Rattle.guest_kernel.proofs.drawing.drawn_words.Given as goal

-- the words so far, and the generator after them
abbrev pub invariant-loop-word : goal.invariant-loop-word
invariant-loop-word l = record {
  words : (k : ℕ) → k < l.word-index → get_or l.word-items k 0 ≡ drawn_word l.fn.n k;
  count : length l.word-items ≡ 19;
  rng : l.rng ≡ behind_words l.fn.n l.word-index;
}
