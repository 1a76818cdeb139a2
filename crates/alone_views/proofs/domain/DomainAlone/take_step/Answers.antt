use Rattle.alone_views.proofs.DomainTakes.{next_step, stopped_step}
use Rattle.alone_views.proofs.domain.DomainAlone.take_step.Goals as goal

pub returns-in-Stopped-clause-takes : goal.returns-in-Stopped-clause-takes
returns-in-Stopped-clause-takes c = λ s stands. stopped_step c.args.self.now _ _ c.args.number s stands c.in-Stopped.is c.fail.ensures.unfit

pub returns-in_default-clause-takes : goal.returns-in_default-clause-takes
returns-in_default-clause-takes c = λ s stands.
    next_step c.args.self.now _ _ c.args.number s stands c.in_default.not-Stopped (c.next_step.ensures.takes s stands)
