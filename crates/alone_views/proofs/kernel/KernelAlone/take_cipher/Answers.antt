use Rattle.std.proofs.Common.{ap}
use Rattle.cloak_model.specs.KernelAlone as model
use Rattle.cloak_model.specs.KernelAlone.{take_cipher}
use Rattle.alone_views.specs.KernelStages.{stood_stage}
use Rattle.alone_views.proofs.KernelFits.{at_stage}
use Rattle.alone_views.proofs.kernel.KernelAlone.take_cipher.Goals as goal

pub returns-in-Left : goal.returns-in-Left
unfolding take_cipher
returns-in-Left c =
    at_stage _ _ model.Left (λ p. take_cipher p c.args.frame c.args.bytes.now) (ap stood_stage c.in-Left.is)
    c.refuse.ensures.becomes

pub returns-in-Between : goal.returns-in-Between
unfolding take_cipher
returns-in-Between c =
    at_stage _ _ model.Between (λ p. take_cipher p c.args.frame c.args.bytes.now) (ap stood_stage c.in-Between.is)
    c.show_cipher.ensures

pub returns-in-Outside : goal.returns-in-Outside
unfolding take_cipher
returns-in-Outside c =
    at_stage _ _ (model.Outside c.in-Outside.hart) (λ p. take_cipher p c.args.frame c.args.bytes.now)
    (ap stood_stage c.in-Outside.is) c.show_cipher-in-Outside.ensures

pub returns-in-Inside : goal.returns-in-Inside
unfolding take_cipher
returns-in-Inside c =
    at_stage _ _ (model.Inside c.in-Inside.hart c.in-Inside.ctx) (λ p. take_cipher p c.args.frame c.args.bytes.now)
    (ap stood_stage c.in-Inside.is) c.show_cipher-in-Inside.ensures
