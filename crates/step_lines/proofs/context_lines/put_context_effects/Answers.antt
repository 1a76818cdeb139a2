use Rattle.step_lines.specs.Contexts.{context_effects}
use Rattle.step_lines.proofs.context_lines.put_context_effects.Goals as goal

pub returns-in-Timer : goal.returns-in-Timer
unfolding context_effects
returns-in-Timer g c = rw c.in-Timer.is c.put_one-in-Timer.ensures
