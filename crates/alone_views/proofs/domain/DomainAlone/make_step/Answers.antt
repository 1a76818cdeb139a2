use Rattle.std.proofs.Common.{◌∙◌, refl, None}
use Rattle.alone_views.specs.Side.{answers_in}
use Rattle.alone_views.proofs.SideAnswers.{answers_in-taken}
use Rattle.alone_views.proofs.DomainTakes.{made_with, other_made, over_made}
use Rattle.alone_views.proofs.domain.DomainAlone.make_step.Goals as goal

pub returns-in-Over-clause-takes : goal.returns-in-Over-clause-takes
returns-in-Over-clause-takes c = λ s stands.
    let stays = c.in-Over.ensures.stays in
    made_with _ c.args.slot s _ _ (answers_in-taken c.args.answer)
    (over_made c.try_step.new.self _ (answers_in c.args.answer None) s _ (c.in-Over.ensures.tries s stands)
    stands.fit (stays.unfit ∙ stands.unfit) (stays.steps ∙ stands.steps) refl refl refl)

pub returns-in_default-clause-takes : goal.returns-in_default-clause-takes
returns-in_default-clause-takes c = λ s stands.
    made_with _ c.args.slot s _ _ (answers_in-taken c.args.answer)
    (other_made c.try_step.new.self _ c.try_step.result (answers_in c.args.answer None) s _ c.try_step.new.self.steps (c.try_step.ensures.tries s stands)
    c.in_default.not-Over c.fail.ensures.unfit (c.try_step.ensures.stays.steps ∙ stands.steps))
