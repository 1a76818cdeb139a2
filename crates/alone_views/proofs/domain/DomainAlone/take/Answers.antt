use Rattle.cloak_model.specs.Items.{item_of}
use Rattle.alone_views.proofs.DomainTakes.{takes_fit, takes_unfit}
use Rattle.alone_views.proofs.domain.DomainAlone.take.Goals as goal

pub returns-in-None-clause-takes : goal.returns-in-None-clause-takes
returns-in-None-clause-takes c = λ number schedule s stands.
    takes_fit number schedule c.args.self.now c.take_fit.new.self s (item_of c.args.i.now) _ c.in-None.is stands c.take_fit.ensures.takes c.take_fit.ensures.keeps c.answer.ensures

pub returns-in-None-clause-stays_unfit : goal.returns-in-None-clause-stays_unfit
returns-in-None-clause-stays_unfit c = λ u is. cc

pub returns-in-Some-clause-takes : goal.returns-in-Some-clause-takes
returns-in-Some-clause-takes c = λ number schedule s stands.
    takes_unfit number schedule c.args.self.now s (item_of c.args.i.now) c.in-Some.unfit c.in-Some.is stands
