use Rattle.domain_isolation.proofs.Halves.{domain_depends_on_half}
use Rattle.domain_isolation.proofs.Isolated.{domain_is_alone, domain_ends_alone}
use Rattle.domain_isolation.proofs.law_of_domain_isolation.Goals as goal

pub returns-clause-steps : goal.returns-clause-steps
returns-clause-steps c = domain_is_alone

pub returns-clause-end : goal.returns-clause-end
returns-clause-end c = domain_ends_alone

pub returns-clause-half : goal.returns-clause-half
returns-clause-half c = domain_depends_on_half
