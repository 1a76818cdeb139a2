use Rattle.kernel_isolation.proofs.TwoRuns.{kernel_depends_on_half}
use Rattle.kernel_isolation.proofs.Isolated.{kernel_is_alone, kernel_ends_alone}
use Rattle.kernel_isolation.proofs.law_of_kernel_isolation.Goals as goal

pub returns-clause-steps : goal.returns-clause-steps
returns-clause-steps c = kernel_is_alone

pub returns-clause-end : goal.returns-clause-end
returns-clause-end c = kernel_ends_alone

pub returns-clause-half : goal.returns-clause-half
returns-clause-half c = kernel_depends_on_half
