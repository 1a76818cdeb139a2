use Rattle.vector_law.proofs.States.{states_show_no_key}
use Rattle.vector_law.proofs.law_of_states.Goals as goal

pub returns : goal.returns
returns c = states_show_no_key
