use Rattle.alone_views.proofs.DomainTakes.{ended_other, ended_stopped, ended_elsewhere}
use Rattle.alone_views.proofs.domain.DomainAlone.take_ended.Goals as goal

pub returns-in-Other-clause-takes : goal.returns-in-Other-clause-takes
returns-in-Other-clause-takes c = λ s stands.
    ended_other c.args.self.now _ s _ _ stands c.in-Other.is c.has_ended-ended.ensures (c.end_unless.ensures.takes s stands)

pub returns-in-Stopped-clause-takes : goal.returns-in-Stopped-clause-takes
returns-in-Stopped-clause-takes c = λ s stands.
    ended_stopped c.args.self.now _ s _ _ stands c.in-Stopped.is (c.end.ensures.takes s stands)

pub returns-in_default-clause-takes : goal.returns-in_default-clause-takes
returns-in_default-clause-takes c = λ s stands.
    ended_elsewhere c.args.self.now _ s _ _ stands c.in_default.not-Other c.in_default.not-Stopped c.fail.ensures.unfit
