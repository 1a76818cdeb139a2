use Rattle.std.proofs.Common.{◌∙◌, ap, sym}
use Rattle.cloak_model.specs.Contexts.{context_at}
use Rattle.cloak_model.specs.DomainState as model
use Rattle.alone_views.proofs.domain.DomainAlone.slot_context.Goals as goal

pub returns-clause-value : goal.returns-clause-value
returns-clause-value c number schedule s stands fits =
    c.slot_context.ensures.value
    ∙ ap (λ (x : model.Control). context_at x.contexts c.args.slot) (sym (stands.state.while_fit fits).part.domain.control)
