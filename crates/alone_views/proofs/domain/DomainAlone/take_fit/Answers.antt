use Rattle.std.proofs.Common.{ap}
use Rattle.cloak_model.specs.DomainAlone.{domain_takes}
use Rattle.cloak_model.specs.Items.{item_of}
use Rattle.alone_views.proofs.DomainTakes.{ignored, stands_fit, takes_as_at}
use Rattle.alone_views.proofs.domain.DomainAlone.take_fit.Goals as goal

pub returns-in-Step-clause-takes : goal.returns-in-Step-clause-takes
unfolding domain_takes
returns-in-Step-clause-takes c = takes_as_at c.args.self.now _ _ _ (item_of c.args.i.now) _ (ap item_of c.in-Step.is) c.take_step.ensures.takes

pub returns-in-Close-clause-takes : goal.returns-in-Close-clause-takes
unfolding domain_takes
returns-in-Close-clause-takes c = takes_as_at c.args.self.now _ _ _ (item_of c.args.i.now) _ (ap item_of c.in-Close.is) c.end_step.ensures.takes

pub returns-in-Ok-clause-takes : goal.returns-in-Ok-clause-takes
unfolding domain_takes
returns-in-Ok-clause-takes c = takes_as_at c.args.self.now _ _ _ (item_of c.args.i.now) _ (ap item_of c.in-Ok.is) c.take_answer_for.ensures.takes

pub returns-in-Absent-clause-takes : goal.returns-in-Absent-clause-takes
unfolding domain_takes
returns-in-Absent-clause-takes c = takes_as_at c.args.self.now _ _ _ (item_of c.args.i.now) _ (ap item_of c.in-Absent.is) c.take_answer_for-in-Absent.ensures.takes

pub returns-in-Word-clause-takes : goal.returns-in-Word-clause-takes
unfolding domain_takes
returns-in-Word-clause-takes c = takes_as_at c.args.self.now _ _ _ (item_of c.args.i.now) _ (ap item_of c.in-Word.is) c.take_answer_for-in-Word.ensures.takes

pub returns-in-Stopped-clause-takes : goal.returns-in-Stopped-clause-takes
unfolding domain_takes
returns-in-Stopped-clause-takes c = takes_as_at c.args.self.now _ _ _ (item_of c.args.i.now) _ (ap item_of c.in-Stopped.is) c.take_answer_for-in-Stopped.ensures.takes

pub returns-in-Timer-clause-takes : goal.returns-in-Timer-clause-takes
unfolding domain_takes
returns-in-Timer-clause-takes c = takes_as_at c.args.self.now _ _ _ (item_of c.args.i.now) _ (ap item_of c.in-Timer.is) c.take_timer_for.ensures.takes

pub returns-in-Resume-clause-takes : goal.returns-in-Resume-clause-takes
unfolding domain_takes
returns-in-Resume-clause-takes c = takes_as_at c.args.self.now _ _ _ (item_of c.args.i.now) _ (ap item_of c.in-Resume.is) c.take_resume_for.ensures.takes

pub returns-in-Ended-clause-takes : goal.returns-in-Ended-clause-takes
unfolding domain_takes
returns-in-Ended-clause-takes c = takes_as_at c.args.self.now _ _ _ (item_of c.args.i.now) _ (ap item_of c.in-Ended.is) c.take_ended_for.ensures.takes

pub returns-in_default-clause-takes : goal.returns-in_default-clause-takes
returns-in_default-clause-takes c = λ s stands.
    ignored c.args.self.now _ _ c.args.i.now s c.in_default.not-Step c.in_default.not-Close c.in_default.not-Ok c.in_default.not-Absent c.in_default.not-Word c.in_default.not-Timer
    c.in_default.not-Resume c.in_default.not-Stopped c.in_default.not-Ended (stands_fit c.args.self.now s stands)
