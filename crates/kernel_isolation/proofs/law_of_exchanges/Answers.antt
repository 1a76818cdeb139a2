use Rattle.kernel_isolation.proofs.TwoRuns.{writes_an_exchange}
use Rattle.kernel_isolation.proofs.law_of_exchanges.Goals as goal

pub returns : goal.returns
returns c = writes_an_exchange
