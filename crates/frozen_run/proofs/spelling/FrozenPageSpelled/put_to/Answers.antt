use Rattle.frozen_run.proofs.WritingFacts.{gives_then}
use Rattle.frozen_run.proofs.spelling.FrozenPageSpelled.put_to.Goals as goal

pub returns-clause-gives : goal.returns-clause-gives
returns-clause-gives g c = gives_then c.put_to.ensures.gives c.put_to-2.ensures.gives
