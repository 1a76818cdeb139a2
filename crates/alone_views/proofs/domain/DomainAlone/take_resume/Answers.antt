use Rattle.alone_views.proofs.DomainTakes.{resume_elsewhere, resume_foreign, resume_own}
use Rattle.alone_views.proofs.domain.DomainAlone.take_resume.Goals as goal

pub returns-then-ctx-self-clause-takes : goal.returns-then-ctx-self-clause-takes
returns-then-ctx-self-clause-takes c = λ s stands.
    resume_own c.args.self.now _ s _ c.args.ctx c.args.answer stands c.in-Other.is c.if-ctx-self.true (c.resume.ensures.takes s stands)

pub returns-else-ctx-self-clause-takes : goal.returns-else-ctx-self-clause-takes
returns-else-ctx-self-clause-takes c = λ s stands.
    resume_foreign c.args.self.now _ s _ c.args.ctx c.args.answer stands c.in-Other.is c.if-ctx-self.false c.fail.ensures.unfit

pub returns-in_default-clause-takes : goal.returns-in_default-clause-takes
returns-in_default-clause-takes c = λ s stands.
    resume_elsewhere c.args.self.now _ s _ c.args.ctx c.args.answer stands c.in_default.not-Other c.fail-in_default.ensures.unfit
