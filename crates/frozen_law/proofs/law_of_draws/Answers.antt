use Rattle.frozen_law.proofs.DrawRuns.{draws_are_few, draws_are_below}
use Rattle.frozen_law.proofs.law_of_draws.Goals as goal

pub returns-clause-steps : goal.returns-clause-steps
returns-clause-steps c = draws_are_few

pub returns-clause-below : goal.returns-clause-below
returns-clause-below c = draws_are_below
