use Rattle.std.proofs.Common.{take}
use Rattle.frozen_state.specs.Words.{AreWords}
use Rattle.domain_page.proofs.limits.words_fit.Given as goal

abbrev pub invariant-loop-word : goal.invariant-loop-word
invariant-loop-word l = AreWords (take l.word-index l.words)
