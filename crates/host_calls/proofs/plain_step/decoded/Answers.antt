use Rattle.host_calls.proofs.WholeAccess.{off_table_steps}
use Rattle.host_calls.proofs.plain_step.decoded.Goals as goal

pub returns-in-None : goal.returns-in-None
returns-in-None g c =
    off_table_steps g.M.Ram _ _ _ _ _ _ _ _ c.in-None.is c.decode_atomic.ensures.table c.execute_atomic.ensures
