use Rattle.std.proofs.Common.{◌∙◌, ap, sym}
use Rattle.cloak_model.specs.DomainState as model
use Rattle.cloak_model.specs.Resources.{page_at}
use Rattle.alone_views.proofs.domain.DomainAlone.space_page.Goals as goal

pub returns-clause-value : goal.returns-clause-value
returns-clause-value c number schedule s stands fits =
    c.space_page.ensures.value
    ∙ ap (λ (x : model.Control). page_at x.number x.resources c.args.space c.args.address)
    (sym (stands.state.while_fit fits).part.domain.control)
