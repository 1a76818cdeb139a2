use Rattle.std.proofs.Common.{◌≡◌, ◌<◌, ◌||◌, ℕ, false, get_or, length, drop}
use Rattle.disassembly.specs.Listing.{is_led_to}
use Rattle.disassembly.proofs.listing.labels.Given as goal

-- what is marked, or is led to by the words to come, is what is led to
abbrev pub invariant-loop-word : goal.invariant-loop-word
invariant-loop-word l = record {
  at : l.place ≡ l.word-index;
  len : length l.marks.items ≡ length l.words;
  so_far : (there : ℕ) → there < length l.words →
      (get_or l.marks.items there false || is_led_to (length l.words) l.place (drop l.word-index l.words) there)
      ≡ is_led_to (length l.words) 0 l.words there;
}
