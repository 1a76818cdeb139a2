use Rattle.std.proofs.Common.{Ok, Err}
use Rattle.host_calls.proofs.WholeAccess.{reserve_steps}
use Rattle.host_calls.proofs.atomic.reserve.Goals as goal

pub returns-in-Err : goal.returns-in-Err
returns-in-Err g c = reserve_steps g.M.Ram _ _ _ _ _ (Err c.in-Err.cause) _ c.raise.ensures c.in-Err.ensures

pub returns-in-Ok : goal.returns-in-Ok
returns-in-Ok g c = reserve_steps g.M.Ram _ _ _ _ _ (Ok c.in-Ok.value) _ c.go_on_with.ensures c.in-Ok.ensures
