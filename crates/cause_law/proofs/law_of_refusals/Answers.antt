use Rattle.cause_law.proofs.Refused.{page_is_refused}
use Rattle.cause_law.proofs.Runs.{presented_is_refused, stopped_ends}
use Rattle.cause_law.proofs.law_of_refusals.Goals as goal

pub returns-clause-presented : goal.returns-clause-presented
returns-clause-presented c = presented_is_refused

pub returns-clause-page : goal.returns-clause-page
returns-clause-page c = page_is_refused

pub returns-clause-stopped : goal.returns-clause-stopped
returns-clause-stopped c = stopped_ends
