use Rattle.std.proofs.Common.{ap, sym, ◌∙◌}
use Rattle.cloak_model.specs.KernelAlone as model
use Rattle.alone_views.specs.KernelStanding.{answer_for}
use Rattle.alone_views.proofs.kernel.KernelAlone.take.Goals as goal

pub returns-clause-takes : goal.returns-clause-takes
returns-clause-takes g c turns s ranges stands =
    let gains = c.take_next.ensures.gains turns s ranges stands in
    record {
      gains = gains;
      answer = c.answer.ensures ∙ ap (λ (t : model.KernelAlone). answer_for t.unfit) (sym gains.stands.state);
    }
