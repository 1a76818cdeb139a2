use Rattle.std.proofs.Common.{ap}
use Rattle.cloak_model.specs.KernelAlone as model
use Rattle.cloak_model.specs.KernelAlone.{take_put}
use Rattle.alone_views.specs.KernelStages.{stood_stage}
use Rattle.alone_views.proofs.KernelFits.{at_stage}
use Rattle.alone_views.proofs.kernel.KernelAlone.take_put.Goals as goal

pub returns-in-Inside-clause-becomes : goal.returns-in-Inside-clause-becomes
unfolding take_put
returns-in-Inside-clause-becomes c width =
    at_stage _ _ (model.Inside c.in-Inside.hart c.in-Inside.ctx)
    (λ p. take_put p c.args.address c.args.width c.args.value) (ap stood_stage c.in-Inside.is)
    (c.store.ensures.becomes width)

pub returns-in-Between-clause-becomes : goal.returns-in-Between-clause-becomes
unfolding take_put
returns-in-Between-clause-becomes c width =
    at_stage _ _ model.Between (λ p. take_put p c.args.address c.args.width c.args.value)
    (ap stood_stage c.in-Between.is) c.refuse.ensures.becomes

pub returns-in-Outside-clause-becomes : goal.returns-in-Outside-clause-becomes
unfolding take_put
returns-in-Outside-clause-becomes c width =
    at_stage _ _ (model.Outside c.in-Outside.hart) (λ p. take_put p c.args.address c.args.width c.args.value)
    (ap stood_stage c.in-Outside.is) c.refuse-in-Outside.ensures.becomes

pub returns-in-Left-clause-becomes : goal.returns-in-Left-clause-becomes
unfolding take_put
returns-in-Left-clause-becomes c width =
    at_stage _ _ model.Left (λ p. take_put p c.args.address c.args.width c.args.value) (ap stood_stage c.in-Left.is)
    c.refuse-in-Left.ensures.becomes
