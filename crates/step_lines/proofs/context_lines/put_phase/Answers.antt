use Rattle.step_lines.specs.Contexts.{phase_effects}
use Rattle.step_lines.proofs.context_lines.put_phase.Goals as goal

pub returns-in-CopyIn : goal.returns-in-CopyIn
unfolding phase_effects
returns-in-CopyIn g c = rw c.in-CopyIn.is c.put_copy.ensures

pub returns-in-Waiting : goal.returns-in-Waiting
unfolding phase_effects
returns-in-Waiting g c = rw c.in-Waiting.is c.put_one.ensures

pub returns-in-CopyOut : goal.returns-in-CopyOut
unfolding phase_effects
returns-in-CopyOut g c = rw c.in-CopyOut.is c.put_copy-in-CopyOut.ensures
