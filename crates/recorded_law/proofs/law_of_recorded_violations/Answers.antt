use Rattle.recorded_law.proofs.Ended.{ends_are_recorded}
use Rattle.recorded_law.proofs.Refused.{refusals_are_recorded}
use Rattle.recorded_law.proofs.law_of_recorded_violations.Goals as goal

pub returns-clause-ends : goal.returns-clause-ends
returns-clause-ends c = ends_are_recorded

pub returns-clause-refusals : goal.returns-clause-refusals
returns-clause-refusals c = refusals_are_recorded
