use Rattle.frozen_promise.proofs.Accepted.{saved_states_are_accepted}
use Rattle.frozen_promise.proofs.law_of_saved_states.Goals as goal

pub returns : goal.returns
returns g c = saved_states_are_accepted g.row.S.Denot g.row.O.Denot
