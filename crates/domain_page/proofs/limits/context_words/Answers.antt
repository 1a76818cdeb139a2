use Rattle.std.proofs.Common.{arith, subst}
use Rattle.frozen_state.specs.Words.{AreWords}
use Rattle.domain_page.proofs.limits.context_words.Goals as goal

pub returns : goal.returns
returns c = rw (← c.c.view_is) (record { regs = subst AreWords c.words.ensures.value c.words_fit.ensures; pc = omega arith })
