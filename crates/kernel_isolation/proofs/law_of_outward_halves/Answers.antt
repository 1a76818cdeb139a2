use Rattle.kernel_isolation.proofs.Ignoring.{outward_half_suffices}
use Rattle.kernel_isolation.proofs.law_of_outward_halves.Goals as goal

pub returns : goal.returns
returns c = outward_half_suffices
