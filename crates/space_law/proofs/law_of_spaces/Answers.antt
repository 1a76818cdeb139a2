use Rattle.space_law.proofs.Ended.{step_keeps_pages}
use Rattle.space_law.proofs.Turns.{turn_keeps_pages}
use Rattle.space_law.proofs.law_of_spaces.Goals as goal

pub returns-clause-turn : goal.returns-clause-turn
returns-clause-turn c = turn_keeps_pages

pub returns-clause-step : goal.returns-clause-step
returns-clause-step c = step_keeps_pages
