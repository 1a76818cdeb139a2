use Rattle.std.proofs.Common.{◌≡◌, length, ap, ◌∙◌, arith}
use Rattle.guest_kernel.proofs.Lengths.{length-demo_words, made_code}
use Rattle.guest_kernel.proofs.programs.demo_code.Goals as goal

pub slice_bounds-put_words-count : goal.slice_bounds-put_words-count
slice_bounds-put_words-count c =
    let count : length c.demo_words-words.result.now ≡ 61 = ap length c.demo_words-words.ensures ∙ length-demo_words in
    omega (arith, count)

pub returns : goal.returns
returns c =
    made_code c.args.program c.args.rounds _ _ _ _ _ c.demo_words-words.ensures c.new-out.ensures.items
    c.in_ok-put_words.ensures c.in_ok-put_words-2.ensures (omega arith)
