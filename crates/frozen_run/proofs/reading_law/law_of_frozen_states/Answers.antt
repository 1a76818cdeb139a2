use Rattle.frozen_run.proofs.Laws.{spells_one, has_fault_or_state}
use Rattle.frozen_run.proofs.reading_law.law_of_frozen_states.Goals as goal

pub returns-clause-one_state : goal.returns-clause-one_state
returns-clause-one_state c = spells_one

pub returns-clause-fault_or_state : goal.returns-clause-fault_or_state
returns-clause-fault_or_state c = has_fault_or_state
