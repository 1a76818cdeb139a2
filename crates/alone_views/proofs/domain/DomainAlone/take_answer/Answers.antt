use Rattle.alone_views.proofs.DomainTakes.{answer_elsewhere, answer_running}
use Rattle.alone_views.proofs.domain.DomainAlone.take_answer.Goals as goal

pub returns-in-Running-clause-takes : goal.returns-in-Running-clause-takes
returns-in-Running-clause-takes c = λ s stands.
    answer_running c.args.self.now _ s c.in-Running.slot c.in-Running.answer c.args.a stands c.in-Running.is (c.answer_step.ensures.takes s stands)

pub returns-in_default-clause-takes : goal.returns-in_default-clause-takes
returns-in_default-clause-takes c = λ s stands. answer_elsewhere c.args.self.now _ s c.args.a stands c.in_default.not-Running c.fail.ensures.unfit
