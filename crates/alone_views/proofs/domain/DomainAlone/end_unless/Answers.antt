use Rattle.alone_views.proofs.DomainTakes.{stands_unfit}
use Rattle.alone_views.proofs.domain.DomainAlone.end_unless.Goals as goal

pub returns-then-ended-clause-takes : goal.returns-then-ended-clause-takes
returns-then-ended-clause-takes c = λ s stands.
    rw c.if-ended.true (stands_unfit _ s c.args.self.now.steps c.fail.ensures.unfit stands.steps)
