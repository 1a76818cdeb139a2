use Rattle.host_calls.proofs.WholeAccess.{operation_steps}
use Rattle.host_calls.proofs.atomic.access_word.Goals as goal

pub returns-in_default : goal.returns-in_default
returns-in_default g c =
    operation_steps g.M.Ram _ _ _ _ _ _ _ _ c.in_default.not-Lr c.in_default.not-Sc c.combine.ensures
