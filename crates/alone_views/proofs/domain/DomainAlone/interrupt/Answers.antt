use Rattle.std.proofs.Common.{refl}
use Rattle.alone_views.proofs.DomainTakes.{interrupts, interrupts_free}
use Rattle.alone_views.proofs.DomainTried.{free_slot}
use Rattle.alone_views.proofs.domain.DomainAlone.interrupt.Goals as goal

pub returns-then-is_some-clause-takes : goal.returns-then-is_some-clause-takes
returns-then-is_some-clause-takes c = λ s stands.
    interrupts c.args.self.now _ s c.args.slot stands (c.interrupt.ensures.interrupts s.part.domain stands.part.domain).domain_stands refl refl refl refl

pub returns-else-is_some-clause-takes : goal.returns-else-is_some-clause-takes
returns-else-is_some-clause-takes c = λ s stands.
    interrupts_free c.args.self.now _ s c.args.slot stands
    (free_slot c.args.self.now.domain s.part.domain c.args.slot c.context.result c.is_some.result stands.part.domain c.context.ensures.value c.is_some.ensures c.if-is_some.false)
    refl refl refl refl refl
