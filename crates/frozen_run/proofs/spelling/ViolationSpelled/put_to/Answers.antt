use Rattle.frozen_run.proofs.WritingFacts.{gives_then}
use Rattle.frozen_run.proofs.spelling.ViolationSpelled.put_to.Goals as goal

pub returns-in-Page-clause-gives : goal.returns-in-Page-clause-gives
returns-in-Page-clause-gives g c =
    rw c.in-Page.is (gives_then c.put.ensures.gives (gives_then c.put_to.ensures.gives
    (gives_then c.put_to-in-Page.ensures.gives c.put_to-in-Page-2.ensures.gives)))

pub returns-in-Context-clause-gives : goal.returns-in-Context-clause-gives
returns-in-Context-clause-gives g c =
    rw c.in-Context.is (gives_then c.put-in-Context.ensures.gives c.put_to-in-Context.ensures.gives)

pub returns-in-Mapping-clause-gives : goal.returns-in-Mapping-clause-gives
returns-in-Mapping-clause-gives g c =
    rw c.in-Mapping.is (gives_then c.put-in-Mapping.ensures.gives
    (gives_then c.put_to-in-Mapping.ensures.gives c.put_to-in-Mapping-2.ensures.gives))
