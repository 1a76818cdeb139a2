use Rattle.std.proofs.Common.{refl}
use Rattle.alone_views.specs.Side.{answers_in}
use Rattle.alone_views.proofs.DomainTried.{handed_to, hands, is_tried}
use Rattle.alone_views.proofs.domain.DomainAlone.try_step.Goals as goal

pub returns-clause-tries : goal.returns-clause-tries
returns-clause-tries c = λ s stands.
    is_tried c.step_slot.new.self c.args.slot (answers_in c.args.first c.args.second) s c.handing.result stands.part.slots
    (c.step_slot.ensures.steps s.part.domain (handed_to s (answers_in c.args.first c.args.second)) stands.part.domain
    (hands c.args.self.now.side _ c.args.first c.args.second s c.hand.ensures.pages c.hand.ensures.first c.hand.ensures.second c.hand.ensures.fit stands.part.pages) refl)
    c.handing.ensures
