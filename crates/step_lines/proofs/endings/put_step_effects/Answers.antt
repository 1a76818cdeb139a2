use Rattle.kernel_report.proofs.PutFacts.{then}
use Rattle.step_lines.specs.Endings.{step_effects}
use Rattle.step_lines.proofs.Joining.{one_effect}
use Rattle.step_lines.proofs.endings.put_step_effects.Goals as goal

pub returns-in-Trapped : goal.returns-in-Trapped
unfolding step_effects
returns-in-Trapped g c = rw c.in-Trapped.is (one_effect (then c.put_gap-so_far.ensures c.put_trap.ensures))

pub returns-in-Resume : goal.returns-in-Resume
unfolding step_effects
returns-in-Resume g c =
    rw c.in-Resume.is (one_effect (then c.put_gap-so_far-in-Resume.ensures c.put_resume.ensures))
