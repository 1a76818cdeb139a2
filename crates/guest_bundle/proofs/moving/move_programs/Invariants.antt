use Rattle.std.proofs.Common.{◌≡◌, ◌++◌, length, map, reverse, take}
use Rattle.guest_bundle.specs.Places.{program_of, AreProgramPlaces}
use Rattle.guest_bundle.proofs.moving.move_programs.Given as goal

abbrev pub invariant-loop-p : goal.invariant-loop-p
invariant-loop-p l = record {
  rest : l.file.items ≡ take (length l.file.items) l.fn.file.items;
  lie : AreProgramPlaces l.low l.places.items (length l.file.items);
  so_far : map (program_of l.fn.file.items) l.places.items ++ reverse l.programs.items ≡
      map (program_of l.fn.file.items) l.fn.places.items;
}

abbrev pub decreases-loop-p : goal.decreases-loop-p
decreases-loop-p l = length l.places.items
