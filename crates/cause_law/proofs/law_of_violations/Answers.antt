use Rattle.cause_law.proofs.Runs.{violation_has_cause, end_has_cause, listed_have_ended, count_has_cause}
use Rattle.cause_law.proofs.law_of_violations.Goals as goal

pub returns-clause-met : goal.returns-clause-met
returns-clause-met c = violation_has_cause

pub returns-clause-ended : goal.returns-clause-ended
returns-clause-ended c = end_has_cause

pub returns-clause-listed : goal.returns-clause-listed
returns-clause-listed c = listed_have_ended

pub returns-clause-counted : goal.returns-clause-counted
returns-clause-counted c = count_has_cause
