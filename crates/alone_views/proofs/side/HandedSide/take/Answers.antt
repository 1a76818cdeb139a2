use Rattle.std.proofs.Common.{refl, ◌∙◌, sym}
use Rattle.alone_views.specs.Side.{is_fit}
use Rattle.alone_views.proofs.SideAnswers.{follows_none, follows_unfit, follows_fit}
use Rattle.alone_views.proofs.side.HandedSide.take.Goals as goal

pub returns-in-None-clause-follows : goal.returns-in-None-clause-follows
returns-in-None-clause-follows c = λ h stands.
    follows_none (is_fit c.args.question) c.args.self.now _ _ h c.in-None.is c.lack.ensures.answer c.lack.ensures.unfit stands

pub returns-then-takes-clause-follows : goal.returns-then-takes-clause-follows
returns-then-takes-clause-follows c = λ h stands.
    follows_fit (is_fit c.args.question) c.args.self.now _ c.in-Some.a h c.in-Some.is (sym c.takes.ensures ∙ c.if-takes.true) refl refl refl refl stands

pub returns-else-takes-clause-follows : goal.returns-else-takes-clause-follows
returns-else-takes-clause-follows c = λ h stands.
    follows_unfit (is_fit c.args.question) c.args.self.now _ c.in-Some.a _ h c.in-Some.is (sym c.takes.ensures ∙ c.if-takes.false) c.lack-else-takes.ensures.answer c.lack-else-takes.ensures.unfit stands
