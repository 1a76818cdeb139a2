use Rattle.chain_law.proofs.ZeroRuns.{left_unshown_are_zeros, unshown_are_zeros}
use Rattle.chain_law.proofs.law_of_unshown_pages.Goals as goal

pub returns-clause-moments : goal.returns-clause-moments
returns-clause-moments c = unshown_are_zeros

pub returns-clause-closed : goal.returns-clause-closed
returns-clause-closed c = left_unshown_are_zeros
