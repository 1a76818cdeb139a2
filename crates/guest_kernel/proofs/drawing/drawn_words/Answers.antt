use Rattle.std.proofs.Common.{◌<◌, ◌^◌, length, arith}
use Rattle.guest_kernel.proofs.Drawn.{drawn, drawn_behind, more_drawn, same_count}
use Rattle.guest_kernel.proofs.drawing.drawn_words.Goals as goal

pub loop-word-preserved : goal.loop-word-preserved
loop-word-preserved c =
    let i = c.loop-word.word-index in
    let word = c.next_word.result in
    let words = c.loop-word.word-items in
    let before = c.loop-word.rng in
    let after = c.next_word.new.self in
    let count = c.loop-word.invariant.count in
    let low : i < length words = (let low = c.loop-word-test.true in omega (arith, low, count)) in
    let few : i < 2 ^ 64 = omega (arith, low, count) in record {
      words = more_drawn c.args.n i word words low c.loop-word.invariant.words
          (drawn c.args.n i word before after few c.loop-word.invariant.rng c.next_word.ensures);
      count = same_count i word words count;
      rng = drawn_behind c.args.n i word before after few c.loop-word.invariant.rng
          c.next_word.ensures;
    }
