use Rattle.cloak_model.proofs.BlindWhole.{blind_runs_are_one, padded_runs_are_one, run_is_chained}
use Rattle.cloak_model.proofs.blind.law_of_blind_runs.Goals as goal

pub returns-clause-runs : goal.returns-clause-runs
returns-clause-runs c = blind_runs_are_one

pub returns-clause-real : goal.returns-clause-real
returns-clause-real c = run_is_chained

pub returns-clause-padded : goal.returns-clause-padded
returns-clause-padded c = padded_runs_are_one
