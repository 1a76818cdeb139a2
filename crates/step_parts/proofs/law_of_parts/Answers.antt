use Rattle.step_parts.proofs.Same.{same_step}
use Rattle.step_parts.proofs.law_of_parts.Goals as goal

pub returns : goal.returns
returns c = same_step
