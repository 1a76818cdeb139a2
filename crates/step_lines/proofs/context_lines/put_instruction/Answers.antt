use Rattle.step_lines.proofs.Joining.{and_then}
use Rattle.step_lines.proofs.context_lines.put_instruction.Goals as goal

pub returns : goal.returns
returns g c = and_then c.put_hypercalls-at.ensures c.put_accesses.ensures
