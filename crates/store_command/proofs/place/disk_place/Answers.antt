use Rattle.std.proofs.Common.{length, ap, arith}
use Rattle.std.specs.List.{flat_map}
use Rattle.cloak_model.specs.Bundle.{segment_bytes}
use Rattle.store_command.proofs.Lengths.{place_small}
use Rattle.store_command.proofs.place.disk_place.Goals as goal

pub segments_length-requires : goal.segments_length-requires
segments_length-requires c = omega (
  arith,
  place_small c.args.bundle.now c.requires,
  ap (λ s. length (flat_map segment_bytes s)) c.as_slice-2.ensures,
)

pub overflow_add-result-2 : goal.overflow_add-result-2
overflow_add-result-2 c = omega (
  arith,
  place_small c.args.bundle.now c.requires,
  ap length c.as_slice.ensures,
  c.segments_length.ensures,
  ap (λ s. length (flat_map segment_bytes s)) c.as_slice-2.ensures,
)

pub returns : goal.returns
returns c = omega (
  arith,
  ap length c.as_slice.ensures,
  c.segments_length.ensures,
  ap (λ s. length (flat_map segment_bytes s)) c.as_slice-2.ensures,
)
