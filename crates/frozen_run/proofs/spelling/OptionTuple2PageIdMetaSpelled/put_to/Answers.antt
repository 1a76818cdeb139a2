use Rattle.frozen_run.proofs.WritingFacts.{gives_then}
use Rattle.frozen_run.proofs.spelling.OptionTuple2PageIdMetaSpelled.put_to.Goals as goal

pub returns-in-Some-clause-gives : goal.returns-in-Some-clause-gives
returns-in-Some-clause-gives g c =
    rw c.in-Some.is (gives_then c.put-in-Some.ensures.gives (gives_then c.put_to.ensures.gives c.put_to-in-Some.ensures.gives))
