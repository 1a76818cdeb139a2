use Rattle.std.proofs.Common.{refl, None, Some}
use Rattle.alone_views.proofs.DomainTakes.{begins}
use Rattle.alone_views.proofs.domain.DomainAlone.begin_step.Goals as goal

pub returns-in-None-clause-takes : goal.returns-in-None-clause-takes
returns-in-None-clause-takes c = λ s stands.
    begins c.args.self.now _ s c.args.number c.hart-hart.result None stands c.hart-hart.ensures.value c.in-None.ensures refl refl refl refl refl (λ h. refl)

pub returns-in-Some-clause-takes : goal.returns-in-Some-clause-takes
returns-in-Some-clause-takes c = λ s stands.
    begins c.args.self.now _ s c.args.number c.hart-hart.result (Some c.in-Some.slot) stands c.hart-hart.ensures.value c.in-Some.ensures refl refl refl refl refl (λ h. refl)
