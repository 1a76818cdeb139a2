use Rattle.std.proofs.Common.{◌∙◌, ℕ, List, ap}
use Rattle.alone_views.specs.DomainStanding.{hart_at}
use Rattle.alone_views.proofs.domain.DomainAlone.turn.Goals as goal

pub returns : goal.returns
returns c number schedule s stands fits =
    c.hart.ensures.value ∙ (ap (λ (n : ℕ). hart_at c.args.self.now.schedule.items n) (stands.state.while_fit fits).steps
    ∙ ap (λ (turns : List ℕ). hart_at turns s.steps) stands.scheduled)
