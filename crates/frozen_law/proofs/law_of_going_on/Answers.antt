use Rattle.frozen_law.proofs.Frozen.{frozen_states_go_on}
use Rattle.frozen_law.proofs.law_of_going_on.Goals as goal

pub returns : goal.returns
returns c = frozen_states_go_on
