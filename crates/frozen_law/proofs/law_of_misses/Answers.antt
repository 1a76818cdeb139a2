use Rattle.frozen_law.proofs.MissedRuns.{only_last_stops, nothing_is_missed}
use Rattle.frozen_law.proofs.law_of_misses.Goals as goal

pub returns-clause-steps : goal.returns-clause-steps
returns-clause-steps c = only_last_stops

pub returns-clause-drawn : goal.returns-clause-drawn
returns-clause-drawn c = nothing_is_missed
