use Rattle.step_lines.proofs.Joining.{and_then}
use Rattle.step_lines.proofs.changes.put_changes.Goals as goal

pub returns : goal.returns
returns g c =
    and_then c.put_memory-at.ensures (and_then c.put_registers-at.ensures (and_then c.put_csrs-at.ensures c.put_jump.ensures))
