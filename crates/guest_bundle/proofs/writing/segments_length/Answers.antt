use Rattle.std.proofs.Common.{◌≡◌, ◌+◌, ◌++◌, ◌∷◌, [], length, take, ap, ◌∙◌, sym, arith}
use Rattle.std.proofs.lemmas.List.{take_more}
use Rattle.cloak_model.specs.Bundle.{segment_bytes}
use Rattle.guest_bundle.proofs.Lengths.{front_shorter, one_more}
use Rattle.guest_bundle.proofs.writing.segments_length.Goals as goal
use Rattle.cloak_model.proofs.Lengths.{length-segment_bytes}

pub overflow_add-size-in-loop-s : goal.overflow_add-size-in-loop-s
overflow_add-size-in-loop-s c =
    let xs = c.args.segments.now in
    let i = c.loop-s.s-index in
    let next : take (i + 1) xs ≡ take i xs ++ c.s-item.result ∷ [] =
    take_more xs i c.s-item.result c.loop-s-test.true ∙ ap (λ x. take i xs ++ x ∷ []) (sym c.s-item.is) in
    omega (
      arith,
      one_more segment_bytes xs i c.s-item.result next,
      front_shorter segment_bytes xs (i + 1),
      length-segment_bytes c.s-item.result,
      ap length c.as_slice.ensures,
      c.loop-s.invariant,
      c.requires,
    )
