use Rattle.std.proofs.Common.{◌≡◌, ◌+◌, ◌++◌, ◌∷◌, [], length, take, ap, ◌∙◌, sym, arith}
use Rattle.std.proofs.lemmas.List.{take_more}
use Rattle.cloak_model.specs.Bundle.{program_bytes}
use Rattle.guest_bundle.proofs.Lengths.{program_bytes-length, front_shorter, one_more}
use Rattle.guest_bundle.proofs.writing.programs_length.Goals as goal

pub overflow_add-size-in-loop-p : goal.overflow_add-size-in-loop-p
overflow_add-size-in-loop-p c =
    let xs = c.args.programs.now in
    let i = c.loop-p.p-index in
    let next : take (i + 1) xs ≡ take i xs ++ c.p-item.result ∷ [] =
    take_more xs i c.p-item.result c.loop-p-test.true ∙ ap (λ x. take i xs ++ x ∷ []) (sym c.p-item.is) in
    omega (
      arith,
      one_more (program_bytes 2) xs i c.p-item.result next,
      front_shorter (program_bytes 2) xs (i + 1),
      program_bytes-length 2 c.p-item.result,
      ap length c.as_slice.ensures,
      c.loop-p.invariant,
      c.requires,
    )
