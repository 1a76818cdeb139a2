use Rattle.std.proofs.Common.{◌≡◌, ◌+◌, ◌*◌, take}
use Rattle.std.specs.List.{flat_map}
use Rattle.cloak_model.specs.Bits.{word}
use Rattle.domain_page.specs.Writing.{Appends}
use Rattle.domain_page.proofs.writing.put_words.Given as goal

abbrev pub invariant-loop-word : goal.invariant-loop-word
invariant-loop-word l = record {
  end : l.end ≡ l.at + 4 * l.word-index;
  written : Appends l.fn.into l.into l.at l.end (flat_map word (take l.word-index l.words));
}
