use Rattle.step_lines.proofs.Joining.{and_then}
use Rattle.step_lines.proofs.endings.put_done.Goals as goal

pub returns : goal.returns
returns g c = and_then c.put_host_call-at.ensures c.put_changes.ensures
