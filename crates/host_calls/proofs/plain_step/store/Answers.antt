use Rattle.host_calls.proofs.WholeAccess.{store_steps}
use Rattle.host_calls.proofs.plain_step.store.Goals as goal

pub returns-in-Err : goal.returns-in-Err
returns-in-Err g c =
    store_steps g.M.Ram _ _ _ _ _ _ _ _ c.raise.ensures c.in-Err.ensures

pub returns-in-Ok : goal.returns-in-Ok
returns-in-Ok g c =
    store_steps g.M.Ram _ _ _ _ _ _ _ _ c.go_on.ensures c.in-Ok.ensures
