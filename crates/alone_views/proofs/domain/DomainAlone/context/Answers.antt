use Rattle.std.proofs.Common.{◌∙◌, sym, ap, option_map}
use Rattle.cloak_model.specs.Contexts.{Context, context_at}
use Rattle.cloak_model.specs.DomainState.{Control}
use Rattle.alone_views.proofs.domain.DomainAlone.context.Goals as goal

pub returns-clause-value : goal.returns-clause-value
returns-clause-value c = λ number schedule s stands fit.
    c.context.ensures.value
    ∙ ap (λ (d : Control). option_map (λ (x : Context). (x.space, x.on)) (context_at d.contexts c.args.slot))
    (sym (stands.state.while_fit fit).part.domain.control)
