use Rattle.std.proofs.Common.{◌≡◌, ◌-◌, ◌≤◌, length, map}
use Rattle.guest_bundle.specs.Reading.{segment_at, segment_size, parts_at}
use Rattle.guest_bundle.specs.Places.{segment_of, AreSegmentPlaces}
use Rattle.guest_bundle.proofs.Loop.{with_front}
use Rattle.guest_bundle.proofs.parts.segments.Given as goal

abbrev pub invariant-loop : goal.invariant-loop
invariant-loop l = record {
  so_far : with_front (map (segment_of l.file) l.places.items) (parts_at (segment_at l.frames l.file) segment_size (l.n - l.counter) l.at) ≡
      parts_at (segment_at l.frames l.file) segment_size l.n l.from;
  within : l.at ≤ length l.file;
  lie : AreSegmentPlaces 0 l.places.items l.at;
}
