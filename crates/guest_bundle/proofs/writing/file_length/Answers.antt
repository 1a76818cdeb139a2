use Rattle.std.proofs.Common.{length, ap, arith}
use Rattle.std.specs.List.{flat_map}
use Rattle.cloak_model.specs.Bundle.{segment_bytes, program_bytes}
use Rattle.guest_bundle.proofs.Lengths.{bundle_bytes-length, second_small}
use Rattle.guest_bundle.proofs.writing.file_length.Goals as goal

pub segments_length-segments-requires : goal.segments_length-segments-requires
segments_length-segments-requires c =
    omega (
      arith,
      bundle_bytes-length 2 c.args.b.now,
      second_small c.args.b.now c.requires,
      ap (λ s. length (flat_map segment_bytes s)) c.as_slice-3.ensures,
    )

pub overflow_add-result : goal.overflow_add-result
overflow_add-result c =
    omega (
      arith,
      bundle_bytes-length 2 c.args.b.now,
      second_small c.args.b.now c.requires,
      ap length c.as_slice.ensures,
      ap length c.as_slice-2.ensures,
      c.segments_length-segments.ensures,
      ap (λ s. length (flat_map segment_bytes s)) c.as_slice-3.ensures,
    )

pub programs_length-requires : goal.programs_length-requires
programs_length-requires c =
    omega (
      arith,
      bundle_bytes-length 2 c.args.b.now,
      second_small c.args.b.now c.requires,
      ap (λ p. length (flat_map (program_bytes 2) p)) c.as_slice-4.ensures,
    )

pub overflow_add-result-2 : goal.overflow_add-result-2
overflow_add-result-2 c =
    omega (
      arith,
      bundle_bytes-length 2 c.args.b.now,
      second_small c.args.b.now c.requires,
      ap length c.as_slice.ensures,
      ap length c.as_slice-2.ensures,
      c.segments_length-segments.ensures,
      ap (λ s. length (flat_map segment_bytes s)) c.as_slice-3.ensures,
      c.programs_length.ensures,
      ap (λ p. length (flat_map (program_bytes 2) p)) c.as_slice-4.ensures,
    )

pub returns : goal.returns
returns c =
    omega (
      arith,
      bundle_bytes-length 2 c.args.b.now,
      ap length c.as_slice.ensures,
      ap length c.as_slice-2.ensures,
      c.segments_length-segments.ensures,
      ap (λ s. length (flat_map segment_bytes s)) c.as_slice-3.ensures,
      c.programs_length.ensures,
      ap (λ p. length (flat_map (program_bytes 2) p)) c.as_slice-4.ensures,
    )
