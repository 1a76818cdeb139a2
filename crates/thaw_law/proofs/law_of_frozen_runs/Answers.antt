use Rattle.thaw_law.proofs.FreezeThaw.{runs_are_first_and_rest, stopped_runs_are_whole}
use Rattle.thaw_law.proofs.law_of_frozen_runs.Goals as goal

pub returns-clause-frozen : goal.returns-clause-frozen
returns-clause-frozen c = runs_are_first_and_rest

pub returns-clause-stopped : goal.returns-clause-stopped
returns-clause-stopped c = stopped_runs_are_whole
