use Rattle.completeness.proofs.Runs.{runs_are_complete}
use Rattle.completeness.proofs.law_of_complete_runs.Goals as goal

pub returns : goal.returns
returns c _ = runs_are_complete _ _
