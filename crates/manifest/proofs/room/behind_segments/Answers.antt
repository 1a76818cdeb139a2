use Rattle.std.proofs.Common.{◌≡◌, ◌+◌, ◌≤◌, length, take, ap, arith}
use Rattle.std.specs.List.{flat_map}
use Rattle.std.proofs.lemmas.List.Folds.{length-flat_map-take}
use Rattle.cloak_model.specs.Bundle.{segment_bytes}
use Rattle.cloak_model.specs.declared.image.Segment.{Segment}
use Rattle.manifest.proofs.room.behind_segments.Goals as goal
use Rattle.cloak_model.proofs.Lengths.{length-segment_bytes}

pub returns-in_default : goal.returns-in_default
returns-in_default c =
    let item = c.segment-item.result in
    let front = length-flat_map-take segment_bytes c.args.segments.now c.loop-segment.segment-index item c.loop-segment-test.true in
    let same = ap (λ (s : Segment). length (segment_bytes s)) c.segment-item.is in
    omega (arith, front, same, length-segment_bytes item, c.in_default.ensures, c.loop-segment.invariant)

pub returns-in_default-taken : goal.returns-in_default-taken
returns-in_default-taken c =
    let item = c.segment-item.result in
    let front = length-flat_map-take segment_bytes c.args.segments.now c.loop-segment.segment-index item c.loop-segment-test.true in
    let same = ap (λ (s : Segment). length (segment_bytes s)) c.segment-item.is in
    omega (
      arith,
      front,
      same,
      length-segment_bytes item,
      ap length c.as_slice.ensures,
      c.in-Some.ensures,
      c.in_default-taken.ensures,
      c.loop-segment.invariant,
    )
