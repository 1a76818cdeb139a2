use Rattle.alone_views.proofs.domain.DomainAlone.step.Goals as goal

pub returns : goal.returns
returns c number schedule s stands fits = (stands.state.while_fit fits).steps
