use Rattle.frozen_run.proofs.WritingFacts.{gives_then}
use Rattle.frozen_run.proofs.spelling.OptionU32Spelled.put_to.Goals as goal

pub returns-in-Some-clause-gives : goal.returns-in-Some-clause-gives
returns-in-Some-clause-gives g c = rw c.in-Some.is (gives_then c.put-in-Some.ensures.gives c.put_to.ensures.gives)
