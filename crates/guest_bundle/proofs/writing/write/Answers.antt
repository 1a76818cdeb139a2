use Rattle.std.proofs.Common.{◌≡◌, ℕ, List, ◌++◌, append_assoc}
use Rattle.std.specs.List.{flat_map}
use Rattle.cloak_model.specs.declared.image.Bundle.{Bundle}
use Rattle.cloak_model.specs.Bundle.{segment_bytes, program_bytes, bundle_bytes}
use Rattle.guest_bundle.specs.Writing.{header_bytes}
use Rattle.guest_bundle.proofs.Versions.{is_second}
use Rattle.guest_bundle.proofs.writing.write.Goals as goal

regroup : (front a b c d : List ℕ) → (((front ++ a) ++ b) ++ c) ++ d ≡ front ++ (a ++ (b ++ (c ++ d)))
regroup front a b c d = simp append_assoc

-- the parts as they are written
in_order : (b : Bundle) → (((header_bytes b ++ b.kernel.schedule) ++ flat_map segment_bytes b.kernel.segments) ++
    b.kernel.disk) ++ flat_map (program_bytes 2) b.programs ≡ bundle_bytes 2 b
unfolding bundle_bytes
in_order b = regroup (header_bytes b) b.kernel.schedule (flat_map segment_bytes b.kernel.segments) b.kernel.disk
    (flat_map (program_bytes 2) b.programs)

pub returns : goal.returns
returns c = is_second c.args.b.now _ c.requires.grammar c.requires.fits
    (rw (
      c.in_ok-put_programs.ensures,
      c.in_ok-extend_from_slice-2.ensures.items,
      c.in_ok-put_segments.ensures,
      c.in_ok-extend_from_slice.ensures.items,
      c.in_ok-put_header.ensures,
      c.new-out.ensures.items,
      c.as_slice.ensures,
      c.as_slice-2.ensures,
      c.as_slice-3.ensures,
      c.as_slice-4.ensures,
    ) (in_order c.args.b.now))
