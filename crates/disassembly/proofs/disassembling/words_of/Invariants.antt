use Rattle.std.proofs.Common.{◌≡◌, ◌*◌, ◌-◌, ◌%◌, ◌≤◌, length, take}
use Rattle.std.specs.List.{flat_map}
use Rattle.cloak_model.specs.Bits.{word}
use Rattle.disassembly.proofs.disassembling.words_of.Given as goal

-- the words so far
abbrev pub invariant-loop-at : goal.invariant-loop-at
invariant-loop-at l = record {
  so_far : flat_map word l.words.items ≡ take l.at l.bytes;
  count : 4 * length l.words.items ≡ l.at;
  whole : l.at % 4 ≡ 0;
  inside : l.at ≤ length l.bytes;
}

abbrev pub decreases-loop-at : goal.decreases-loop-at
decreases-loop-at l = length l.bytes - l.at
