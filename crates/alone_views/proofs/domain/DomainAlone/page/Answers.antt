use Rattle.std.proofs.Common.{◌∙◌, ℕ, [], ap, slice_index_or}
use Rattle.alone_views.proofs.domain.DomainAlone.page.Goals as goal

pub returns : goal.returns
returns c number schedule s stands fits =
    c.at.ensures ∙ (ap (λ (n : ℕ). slice_index_or c.args.self.now.side.pages n []) c.page_place.ensures.value
    ∙ (stands.state.while_fit fits).part.pages c.args.q.resource c.args.q.page c.requires.resource c.requires.page)
