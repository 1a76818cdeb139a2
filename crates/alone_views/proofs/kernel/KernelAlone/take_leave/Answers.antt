use Rattle.std.proofs.Common.{ap}
use Rattle.cloak_model.specs.KernelAlone as model
use Rattle.cloak_model.specs.KernelAlone.{take_leave}
use Rattle.alone_views.specs.KernelStages.{stood_stage}
use Rattle.alone_views.proofs.KernelFits.{at_stage}
use Rattle.alone_views.proofs.kernel.KernelAlone.take_leave.Goals as goal

pub returns-in-Inside : goal.returns-in-Inside
returns-in-Inside c =
    at_stage _ _ (model.Inside c.in-Inside.hart c.in-Inside.ctx) (λ p. take_leave p c.args.shown.now)
    (ap stood_stage c.in-Inside.is) c.leave_context.ensures

pub returns-in-Between : goal.returns-in-Between
unfolding take_leave
returns-in-Between c =
    at_stage _ _ model.Between (λ p. take_leave p c.args.shown.now) (ap stood_stage c.in-Between.is) c.refuse.ensures.becomes

pub returns-in-Outside : goal.returns-in-Outside
unfolding take_leave
returns-in-Outside c =
    at_stage _ _ (model.Outside c.in-Outside.hart) (λ p. take_leave p c.args.shown.now) (ap stood_stage c.in-Outside.is)
    c.refuse-in-Outside.ensures.becomes

pub returns-in-Left : goal.returns-in-Left
unfolding take_leave
returns-in-Left c =
    at_stage _ _ model.Left (λ p. take_leave p c.args.shown.now) (ap stood_stage c.in-Left.is) c.refuse-in-Left.ensures.becomes
