use Rattle.thaw_law.proofs.Runs.{closing_keeps_past, runs_keep_past, runs_need_no_past, steps_keep_past}
use Rattle.thaw_law.proofs.law_of_the_past.Goals as goal

pub returns-clause-steps : goal.returns-clause-steps
returns-clause-steps c = steps_keep_past

pub returns-clause-runs : goal.returns-clause-runs
returns-clause-runs c = runs_keep_past

pub returns-clause-closing : goal.returns-clause-closing
returns-clause-closing c = closing_keeps_past

pub returns-clause-alike : goal.returns-clause-alike
returns-clause-alike c = runs_need_no_past
