use Rattle.load_law.proofs.Runs.{due_loads_end, missing_draws_stop, only_due_loads}
use Rattle.load_law.proofs.Listed.{listed_stay}
use Rattle.load_law.proofs.law_of_due_loads.Goals as goal

pub returns-clause-ends : goal.returns-clause-ends
returns-clause-ends c = due_loads_end

pub returns-clause-stops : goal.returns-clause-stops
returns-clause-stops c = missing_draws_stop

pub returns-clause-listed : goal.returns-clause-listed
returns-clause-listed c = listed_stay

pub returns-clause-due : goal.returns-clause-due
returns-clause-due c = only_due_loads
