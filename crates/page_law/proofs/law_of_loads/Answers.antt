use Rattle.page_law.proofs.Loads.{steps_load_newest}
use Rattle.page_law.proofs.law_of_loads.Goals as goal

pub returns : goal.returns
returns c = steps_load_newest
