use Rattle.std.proofs.Common.{◌≡◌, take}
use Rattle.std.specs.List.{flat_map}
use Rattle.frozen_run.specs.Writing.{AddsMore}
use Rattle.frozen_run.proofs.spelling.put_each.Given as goal

-- those so far were written
abbrev pub invariant-loop-item : goal.invariant-loop-item
invariant-loop-item g l = record {
  same_shelf : l.pen.shelf.ghost_name ≡ l.fn.pen.shelf.ghost_name;
  gives : AddsMore g.S.Shelf l.fn.pen l.pen (flat_map g.T.Spelled.spelled (take l.item-index l.items));
}
