use Rattle.std.proofs.Common.{◌≡◌, ◌+◌, ◌*◌, ◌++◌, take}
use Rattle.std.specs.List.{flat_map}
use Rattle.cloak_model.specs.Bits.{word}
use Rattle.exchange_log.proofs.item_bytes.write_words.Given as goal

-- the words so far stand there
abbrev pub invariant-loop-word : goal.invariant-loop-word
invariant-loop-word l = record {
  end : l.end ≡ l.at + 4 * l.word-index;
  written : take l.end l.into ≡ take l.at l.fn.into ++ flat_map word (take l.word-index l.words);
}
