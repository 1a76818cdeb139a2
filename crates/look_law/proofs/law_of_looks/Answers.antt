use Rattle.look_law.proofs.Counts.{counts_are_few}
use Rattle.look_law.proofs.Steps.{step_looks_twice}
use Rattle.look_law.proofs.law_of_looks.Goals as goal

pub returns-clause-step : goal.returns-clause-step
returns-clause-step c = step_looks_twice

pub returns-clause-counts : goal.returns-clause-counts
returns-clause-counts c = counts_are_few
