use Rattle.run_trace.proofs.KernelAdds.{opens_chosen, opens_not}
use Rattle.run_trace.proofs.kernel_side.open_at.Goals as goal

pub returns-then-chosen : goal.returns-then-chosen
returns-then-chosen c turns s stands =
    opens_chosen c.args.choice.now s c.args.hart c.step-step.result c.ahead_at.result c.has-chosen.result
    (c.step-step.ensures turns s stands) c.has-chosen.ensures c.if-chosen.true (c.ahead_at.ensures turns s stands)

pub returns-else-chosen : goal.returns-else-chosen
returns-else-chosen c turns s stands =
    opens_not c.args.choice.now s c.args.hart c.step-step.result c.has-chosen.result (c.step-step.ensures turns s stands)
    c.has-chosen.ensures c.if-chosen.false
