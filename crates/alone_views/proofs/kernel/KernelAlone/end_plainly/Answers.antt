use Rattle.std.proofs.Common.{ap, refl, sym, ◌∙◌}
use Rattle.alone_views.specs.KernelEnding.{plain_ending}
use Rattle.alone_views.proofs.KernelGains.{gains_byte}
use Rattle.alone_views.proofs.kernel.KernelAlone.end_plainly.Goals as goal

pub returns-clause-gains : goal.returns-clause-gains
returns-clause-gains g c turns s stands =
    let step = c.step_plainly-ending in
    gains_byte g.E.Emit.gave c.args.e.now c.show.new.e c.args.self.now step.new.self _ turns s c.args.hart step.result
    stands step.ensures.state step.ensures.console (λ console. refl) step.ensures.schedule c.show.ensures.shows
    c.show.ensures.emits

pub returns-clause-ending : goal.returns-clause-ending
returns-clause-ending g c turns s stands =
    c.step_plainly-ending.ensures.ending s.kernel.console ∙ ap (plain_ending c.args.hart) (sym stands.state)
