use Rattle.std.proofs.Common.{◌≡◌, length, ap, ◌∙◌, arith}
use Rattle.guest_kernel.proofs.Lengths.{length-kernel_words}
use Rattle.guest_kernel.proofs.Images.{length-generated}
use Rattle.guest_kernel.proofs.length.file_length.Goals as goal

pub returns : goal.returns
returns c =
    let count : length c.kernel_words.result.now ≡ 174 = ap length c.kernel_words.ensures ∙ length-kernel_words in
    let whole = length-generated c.args.n in omega (arith, count, whole)
