use Rattle.std.proofs.Common.{◌≡◌, ◌≤◌, length, reverse, take, drop}
use Rattle.guest_bundle.proofs.moving.move_end.Given as goal

abbrev pub invariant-loop-file : goal.invariant-loop-file
invariant-loop-file l = record {
  rest : l.file.items ≡ take (length l.file.items) l.fn.file.items;
  moved : l.bytes.items ≡ reverse (drop (length l.file.items) l.fn.file.items);
  low : l.from ≤ length l.file.items;
}

abbrev pub decreases-loop-file : goal.decreases-loop-file
decreases-loop-file l = length l.file.items
