use Rattle.context_law.proofs.HeldMarks.{contexts_reserve_used}
use Rattle.context_law.proofs.Conditionals.{conditionals_end}
use Rattle.context_law.proofs.Runs.{contexts_keep_reservations, contexts_store_reserved}
use Rattle.context_law.proofs.law_of_context_reservations.Goals as goal

pub returns-clause-kept : goal.returns-clause-kept
returns-clause-kept c = contexts_keep_reservations

pub returns-clause-used : goal.returns-clause-used
returns-clause-used c = contexts_reserve_used

pub returns-clause-stored : goal.returns-clause-stored
returns-clause-stored c = contexts_store_reserved

pub returns-clause-ends : goal.returns-clause-ends
returns-clause-ends c = conditionals_end
