use Rattle.std.proofs.Common.{refl}
use Rattle.alone_views.proofs.DomainTakes.{goes}
use Rattle.alone_views.proofs.domain.DomainAlone.end.Goals as goal

pub returns-clause-takes : goal.returns-clause-takes
returns-clause-takes c = λ s stands.
    goes c.args.self.now _ s _ stands (c.end_all.ensures.ends s.part.domain stands.part.domain) (c.end_pages.ensures.pages s.part.plain) refl refl refl
