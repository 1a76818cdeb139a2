use Rattle.step_lines.proofs.Joining.{and_then}
use Rattle.step_lines.proofs.context_lines.put_done_inside.Goals as goal

pub returns : goal.returns
returns g c = and_then c.put_phase-at.ensures c.put_after.ensures
