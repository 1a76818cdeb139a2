use Rattle.std.proofs.Common.{take}
use Rattle.cloak_model.specs.Report.{words_text}
use Rattle.kernel_report.specs.Putting.{PutsMore, putting}
use Rattle.record_text.proofs.items.put_words.Given as goal

-- the words so far were put
abbrev pub invariant-loop-word : goal.invariant-loop-word
invariant-loop-word g l =
    PutsMore (putting g.O.Sink l.initial.out l.initial.so_far)
    (putting g.O.Sink l.out l.so_far)
    (words_text (take l.word-index l.words))
