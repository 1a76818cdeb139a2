use Rattle.step_lines.proofs.Joining.{no_effect}
use Rattle.step_lines.proofs.context_lines.put_goes_on.Goals as goal

pub returns-then-plain : goal.returns-then-plain
returns-then-plain g c = rw c.if-plain.true c.put_jump.ensures

pub returns-else-plain : goal.returns-else-plain
returns-else-plain g c = rw c.if-plain.false no_effect
