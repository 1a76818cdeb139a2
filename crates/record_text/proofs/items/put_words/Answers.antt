use Rattle.kernel_report.proofs.PutFacts.{then, text_is, words_text-take_more}
use Rattle.record_text.proofs.items.put_words.Goals as goal

pub loop-word-preserved : goal.loop-word-preserved
loop-word-preserved g c =
    text_is (then c.loop-word.invariant (then c.text-so_far.ensures c.put_word-so_far.ensures))
    (words_text-take_more _ _ _ c.loop-word-test.true)
