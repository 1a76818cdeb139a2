use Rattle.std.proofs.Common.{◌≡◌, ◌+◌, ◌*◌, ◌≤◌, ◌++◌, length, drop}
use Rattle.std.specs.List.{flat_map}
use Rattle.disassembly.specs.Listing.{is_led_to, lines_from, with_feed}
use Rattle.disassembly.proofs.listing.listing.Given as goal

-- the lines so far, with those to come, are all lines
abbrev pub invariant-loop-word : goal.invariant-loop-word
invariant-loop-word l = record {
  at : l.place ≡ l.word-index;
  so_far : l.text.items ++ flat_map with_feed (lines_from l.base (length l.words) (is_led_to (length l.words) 0 l.words) l.place (drop l.word-index l.words))
      ≡ flat_map with_feed (lines_from l.base (length l.words) (is_led_to (length l.words) 0 l.words) 0 l.words);
  len : length l.text.items ≤ 103 * l.place;
}
