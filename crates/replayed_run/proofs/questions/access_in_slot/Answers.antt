use Rattle.std.proofs.Common.{◌∙◌, ap, Option}
use Rattle.cloak_model.specs.Contexts.{Context}
use Rattle.replayed_run.specs.Questions.{access_by}
use Rattle.replayed_run.proofs.questions.access_in_slot.Goals as goal

pub returns-in-None : goal.returns-in-None
returns-in-None c number turns s stands fits =
    ap (λ (o : Option Context). access_by c.args.answers s.part o) (c.in-None.ensures.value number turns s stands fits)

pub returns-in-Some : goal.returns-in-Some
returns-in-Some c number turns s stands fits =
    c.access_after.ensures number turns s stands fits
    ∙ ap (λ (o : Option Context). access_by c.args.answers s.part o) (c.in-Some.ensures.value number turns s stands fits)
