use Rattle.alone_views.proofs.DomainTakes.{then_begins, then_stays}
use Rattle.alone_views.proofs.domain.DomainAlone.next_step.Goals as goal

pub returns-in-None-clause-takes : goal.returns-in-None-clause-takes
returns-in-None-clause-takes c = λ s stands.
    then_begins c.end_step.new.self _ _ c.args.number _ c.in-None.is (c.end_step.ensures.takes s stands) c.end_step.ensures.keeps.schedule c.begin_step.ensures.takes

pub returns-in-Some-clause-takes : goal.returns-in-Some-clause-takes
returns-in-Some-clause-takes c = λ s stands.
    then_stays c.end_step.new.self _ c.args.number _ _ c.in-Some.is (c.end_step.ensures.takes s stands)
