use Rattle.std.proofs.Common.{ap, refl}
use Rattle.cloak_model.specs.KernelAlone as model
use Rattle.cloak_model.specs.KernelAlone.{kernel_step_ended}
use Rattle.alone_views.specs.KernelStages.{stood_stage}
use Rattle.alone_views.proofs.KernelFits.{at_stage}
use Rattle.alone_views.proofs.KernelGains.{gains_nothing, ends_outside}
use Rattle.alone_views.proofs.KernelSteps.{ends_as, ends_none}
use Rattle.alone_views.proofs.kernel.KernelAlone.end_step.Goals as goal

pub returns-in-Between-clause-gains : goal.returns-in-Between-clause-gains
unfolding kernel_step_ended
returns-in-Between-clause-gains g c turns s stands =
    gains_nothing g.E.Emit.gave c.args.e.now c.args.self.now _ turns s (λ s. kernel_step_ended s.stage s)
    (at_stage c.args.self.now _ model.Between kernel_step_ended (ap stood_stage c.in-Between.is)
    (record { state = λ console. refl; console = refl; schedule = refl })) stands

pub returns-in-Outside-clause-gains : goal.returns-in-Outside-clause-gains
returns-in-Outside-clause-gains g c turns s stands =
    ends_outside g.E.Emit.gave c.args.e.now _ c.args.self.now _ turns s c.in-Outside.hart stands
    (ap stood_stage c.in-Outside.is) (c.end_plainly.ensures.gains turns s stands)

pub returns-in-Inside-clause-gains : goal.returns-in-Inside-clause-gains
unfolding kernel_step_ended
returns-in-Inside-clause-gains g c turns s stands =
    gains_nothing g.E.Emit.gave c.args.e.now c.args.self.now _ turns s (λ s. kernel_step_ended s.stage s)
    (at_stage c.args.self.now _ (model.Inside c.in-Inside.hart c.in-Inside.ctx) kernel_step_ended
    (ap stood_stage c.in-Inside.is) (record { state = λ console. refl; console = refl; schedule = refl })) stands

pub returns-in-Left-clause-gains : goal.returns-in-Left-clause-gains
unfolding kernel_step_ended
returns-in-Left-clause-gains g c turns s stands =
    gains_nothing g.E.Emit.gave c.args.e.now c.args.self.now _ turns s (λ s. kernel_step_ended s.stage s)
    (at_stage c.args.self.now _ model.Left kernel_step_ended (ap stood_stage c.in-Left.is)
    (record { state = λ console. refl; console = refl; schedule = refl })) stands

pub returns-in-Between-clause-ending : goal.returns-in-Between-clause-ending
returns-in-Between-clause-ending g c = ends_none c.args.self.now c.args.self.now model.Between (ap stood_stage c.in-Between.is) refl

pub returns-in-Outside-clause-ending : goal.returns-in-Outside-clause-ending
returns-in-Outside-clause-ending g c =
    ends_as c.args.self.now c.end_plainly.new.self c.in-Outside.hart (ap stood_stage c.in-Outside.is) c.end_plainly.ensures.ending

pub returns-in-Inside-clause-ending : goal.returns-in-Inside-clause-ending
returns-in-Inside-clause-ending g c =
    ends_none c.args.self.now c.args.self.now (model.Inside c.in-Inside.hart c.in-Inside.ctx) (ap stood_stage c.in-Inside.is) refl

pub returns-in-Left-clause-ending : goal.returns-in-Left-clause-ending
returns-in-Left-clause-ending g c = ends_none c.args.self.now c.args.self.now model.Left (ap stood_stage c.in-Left.is) refl
