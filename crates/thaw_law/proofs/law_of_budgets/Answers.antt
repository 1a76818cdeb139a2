use Rattle.thaw_law.proofs.TwoParts.{runs_go_on, stopped_runs_stay}
use Rattle.thaw_law.proofs.law_of_budgets.Goals as goal

pub returns-clause-goes_on : goal.returns-clause-goes_on
returns-clause-goes_on c = runs_go_on

pub returns-clause-stopped : goal.returns-clause-stopped
returns-clause-stopped c = stopped_runs_stay
