use Rattle.alone_views.proofs.DomainTakes.{timer_answered, timer_elsewhere, timer_running}
use Rattle.alone_views.proofs.domain.DomainAlone.take_timer.Goals as goal

pub returns-in-None-clause-takes : goal.returns-in-None-clause-takes
returns-in-None-clause-takes c = λ s stands. timer_running c.args.self.now _ s c.in-Running.slot stands (cc) (c.interrupt.ensures.takes s stands)

pub returns-in-Some-clause-takes : goal.returns-in-Some-clause-takes
returns-in-Some-clause-takes c = λ s stands.
    timer_answered c.args.self.now _ s c.in-Running.slot c.in-Running.answer stands c.in-Running.is (λ none. cc) c.fail.ensures.unfit

pub returns-in_default-clause-takes : goal.returns-in_default-clause-takes
returns-in_default-clause-takes c = λ s stands. timer_elsewhere c.args.self.now _ s stands c.in_default.not-Running c.fail-in_default.ensures.unfit
