use Rattle.std.proofs.Common.{◌∷◌, [], length-append, arith}
use Rattle.disassembly.proofs.Building.{next_word}
use Rattle.disassembly.proofs.disassembling.words_of.Goals as goal

pub loop-at-preserved : goal.loop-at-preserved
loop-at-preserved c =
    let words = c.loop-at.words.items in
    let w = c.word_at.result in
    let before = c.loop-at.invariant in
    record {
      so_far = rw c.in_ok-push.ensures.items (next_word c.args.bytes.now words c.loop-at.at w before.so_far c.word_at.ensures);
      count = rw c.in_ok-push.ensures.items (let more = length-append words (w ∷ []) in let so_far = before.count in omega (arith, more, so_far));
      whole = let whole = before.whole in omega (arith, whole);
      inside = let whole = before.whole in let below = c.loop-at-test.true in let all = c.requires in omega (arith, whole, below, all);
    }
