use Rattle.std.proofs.Common.{append_assoc, refl}
use Rattle.guest_bundle.proofs.writing.put_header.Goals as goal

pub returns : goal.returns
returns c = rw (
  c.in_ok-put_numbers.ensures,
  c.in_ok-extend_from_slice.ensures.items,
  append_assoc,
  c.as_slice.ensures,
  c.as_slice-2.ensures,
  c.as_slice-3.ensures,
  c.as_slice-4.ensures,
) refl
