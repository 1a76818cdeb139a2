use Rattle.std.proofs.Common.{◌∙◌, refl, Some}
use Rattle.alone_views.specs.Side.{answers_in, one_answer}
use Rattle.alone_views.proofs.DomainTakes.{answered_with, over_answered, wants_answered, wrong_answered}
use Rattle.alone_views.proofs.domain.DomainAlone.answer_step.Goals as goal

pub returns-in-Over-clause-takes : goal.returns-in-Over-clause-takes
returns-in-Over-clause-takes c = λ s stands.
    let both = c.answers_behind-first.result in
    let stays = c.in-Over.ensures.stays in
    answered_with _ c.args.slot (one_answer c.args.answer) c.args.a s _ _ c.answers_behind-first.ensures
    (over_answered c.try_step.new.self _ c.args.slot (one_answer c.args.answer) c.args.a (answers_in (Some both.0) both.1) s _ (c.in-Over.ensures.tries s stands)
    stands.fit (stays.unfit ∙ stands.unfit) (stays.steps ∙ stands.steps) refl refl c.stage_after-self.ensures)

pub returns-in-Wants-clause-takes : goal.returns-in-Wants-clause-takes
returns-in-Wants-clause-takes c = λ s stands.
    let both = c.answers_behind-first.result in
    let stays = c.in-Wants.ensures.stays in
    answered_with _ c.args.slot (one_answer c.args.answer) c.args.a s _ _ c.answers_behind-first.ensures
    (wants_answered c.try_step.new.self _ c.args.slot (one_answer c.args.answer) c.args.a both.0 both.1 s _ c.answers_behind-first.ensures (c.in-Wants.ensures.tries s stands)
    stands.fit (stays.unfit ∙ stands.unfit) (stays.steps ∙ stands.steps) refl refl refl)

pub returns-in-Wrong-clause-takes : goal.returns-in-Wrong-clause-takes
returns-in-Wrong-clause-takes c = λ s stands.
    let both = c.answers_behind-first.result in
    answered_with _ c.args.slot (one_answer c.args.answer) c.args.a s _ _ c.answers_behind-first.ensures
    (wrong_answered c.try_step.new.self _ c.args.slot (one_answer c.args.answer) c.args.a (answers_in (Some both.0) both.1) s _ c.try_step.new.self.steps (c.in-Wrong.ensures.tries s stands)
    c.fail.ensures.unfit (c.in-Wrong.ensures.stays.steps ∙ stands.steps))
