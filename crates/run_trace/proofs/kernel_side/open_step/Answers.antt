use Rattle.std.proofs.Common.{◌∙◌, ap, sym}
use Rattle.cloak_model.specs.KernelAlone as model
use Rattle.alone_views.specs.KernelStages.{stood_stage}
use Rattle.run_trace.specs.KernelTrace.{open_at}
use Rattle.run_trace.proofs.kernel_side.open_step.Goals as goal

pub returns-in-Outside : goal.returns-in-Outside
returns-in-Outside c turns s stands =
    c.open_at.ensures turns s stands
    ∙ ap (λ (p : model.KernelStage). open_at c.args.choice.now p s)
    (ap stood_stage (sym c.in-Outside.is) ∙ c.stage.ensures turns s stands)

pub returns-in-Between : goal.returns-in-Between
returns-in-Between c turns s stands =
    ap (λ (p : model.KernelStage). open_at c.args.choice.now p s)
    (ap stood_stage (sym c.in-Between.is) ∙ c.stage.ensures turns s stands)

pub returns-in-Inside : goal.returns-in-Inside
returns-in-Inside c turns s stands =
    ap (λ (p : model.KernelStage). open_at c.args.choice.now p s)
    (ap stood_stage (sym c.in-Inside.is) ∙ c.stage.ensures turns s stands)

pub returns-in-Left : goal.returns-in-Left
returns-in-Left c turns s stands =
    ap (λ (p : model.KernelStage). open_at c.args.choice.now p s)
    (ap stood_stage (sym c.in-Left.is) ∙ c.stage.ensures turns s stands)
