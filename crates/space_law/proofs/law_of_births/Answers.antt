use Rattle.space_law.proofs.Births.{makes_mapped}
use Rattle.space_law.proofs.Ended.{step_makes_mapped}
use Rattle.space_law.proofs.Mapped.{turn_makes_mapped}
use Rattle.space_law.proofs.Outside.{makes_outside}
use Rattle.space_law.proofs.law_of_births.Goals as goal

pub returns-clause-inside : goal.returns-clause-inside
returns-clause-inside c = makes_mapped

pub returns-clause-outside : goal.returns-clause-outside
returns-clause-outside c = makes_outside

pub returns-clause-turn : goal.returns-clause-turn
returns-clause-turn c = turn_makes_mapped

pub returns-clause-step : goal.returns-clause-step
returns-clause-step c = step_makes_mapped
