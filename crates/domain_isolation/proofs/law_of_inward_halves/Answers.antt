use Rattle.domain_isolation.proofs.Ignoring.{inward_half_suffices}
use Rattle.domain_isolation.proofs.law_of_inward_halves.Goals as goal

pub returns : goal.returns
returns c = inward_half_suffices
