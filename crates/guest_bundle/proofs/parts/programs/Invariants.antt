use Rattle.std.proofs.Common.{◌≡◌, ◌-◌, ◌≤◌, length, map}
use Rattle.guest_bundle.specs.Reading.{program_at, program_size, parts_at}
use Rattle.guest_bundle.specs.Places.{program_of, AreProgramPlaces}
use Rattle.guest_bundle.proofs.Loop.{with_front}
use Rattle.guest_bundle.proofs.parts.programs.Given as goal

abbrev pub invariant-loop : goal.invariant-loop
invariant-loop l = record {
  so_far : with_front (map (program_of l.file) l.places.items)
      (parts_at (program_at l.keys l.frames l.file) (program_size l.keys) (l.n - l.counter) l.at) ≡
      parts_at (program_at l.keys l.frames l.file) (program_size l.keys) l.n l.from;
  within : l.at ≤ length l.file;
  lie : AreProgramPlaces l.from l.places.items l.at;
}
