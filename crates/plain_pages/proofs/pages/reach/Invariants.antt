use Rattle.std.proofs.Common.{◌≡◌, ◌+◌, ◌-◌, ◌≤◌, length, max, vec_capacity}
use Rattle.plain_pages.specs.Places.{pages_to}
use Rattle.plain_pages.proofs.pages.reach.Given as goal

abbrev pub invariant-loop-kept : goal.invariant-loop-kept
invariant-loop-kept l = record {
  pages : l.kept.items ≡ pages_to l.fn.kept.items (length l.kept.items);
  low : length l.fn.kept.items ≤ length l.kept.items;
  high : length l.kept.items ≤ max (l.place + 1) (length l.fn.kept.items);
  room : vec_capacity l.kept ≡ vec_capacity l.fn.kept;
}

abbrev pub decreases-loop-kept : goal.decreases-loop-kept
decreases-loop-kept l = l.place + 1 - length l.kept.items
