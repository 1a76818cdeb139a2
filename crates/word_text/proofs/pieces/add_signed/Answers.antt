use Rattle.std.proofs.Common.{◌≡◌, ◌≤◌, ◌∙◌, ap, length, arith, w32, ℤ}
use Rattle.std.proofs.lemmas.Int.{to_z-of_z}
use Rattle.std.specs.Fmt.{signed_decimal}
use Rattle.word_text.proofs.Lengths.{five_signs}
use Rattle.word_text.proofs.pieces.add_signed.Goals as goal

pub add-requires : goal.add-requires
add-requires c =
    let is : c.as_bytes.result.now ≡ signed_decimal c.args.n =
    c.as_bytes.ensures.value ∙ (c.format.ensures.text ∙ ap (λ (z : ℤ). signed_decimal z) (to_z-of_z w32 c.args.n c.ranges.n)) in
    let few : length c.as_bytes.result.now ≤ 5 = rw is (five_signs c.args.n c.requires.small) in
    record { fits = omega (arith, few, c.requires.fits) }

pub returns-clause-len : goal.returns-clause-len
returns-clause-len c =
    let is : c.as_bytes.result.now ≡ signed_decimal c.args.n =
    c.as_bytes.ensures.value ∙ (c.format.ensures.text ∙ ap (λ (z : ℤ). signed_decimal z) (to_z-of_z w32 c.args.n c.ranges.n)) in
    let few : length c.as_bytes.result.now ≤ 5 = rw is (five_signs c.args.n c.requires.small) in
    omega (arith, few, c.add.ensures.len)
