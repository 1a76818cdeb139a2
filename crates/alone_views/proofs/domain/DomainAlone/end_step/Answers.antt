use Rattle.std.proofs.Common.{refl}
use Rattle.alone_views.proofs.DomainTakes.{elsewhere_ended, running_ended, stopped_ended}
use Rattle.alone_views.proofs.domain.DomainAlone.end_step.Goals as goal

pub returns-in-Running-clause-takes : goal.returns-in-Running-clause-takes
returns-in-Running-clause-takes c = λ s stands.
    running_ended c.args.self.now _ s c.in-Running.slot c.in-Running.answer stands c.in-Running.is (c.make_step.ensures.takes s stands)

pub returns-in-Stopped-clause-takes : goal.returns-in-Stopped-clause-takes
returns-in-Stopped-clause-takes c = λ s stands. stopped_ended c.args.self.now s stands c.in-Stopped.is

pub returns-in_default-clause-takes : goal.returns-in_default-clause-takes
returns-in_default-clause-takes c = λ s stands.
    elsewhere_ended c.args.self.now _ s c.in_default.not-Running c.in_default.not-Stopped stands refl refl refl refl refl
