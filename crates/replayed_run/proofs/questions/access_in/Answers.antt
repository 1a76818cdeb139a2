use Rattle.std.proofs.Common.{◌∙◌, ap, ℕ, Option}
use Rattle.replayed_run.specs.Questions.{access_in_slot}
use Rattle.replayed_run.proofs.questions.access_in.Goals as goal

pub returns-in-None : goal.returns-in-None
returns-in-None c number turns s stands fits =
    ap (λ (o : Option ℕ). access_in_slot c.args.answers s.part o) (c.in-None.ensures number turns s stands fits)

pub returns-in-Some : goal.returns-in-Some
returns-in-Some c number turns s stands fits =
    c.access_in_slot.ensures number turns s stands fits
    ∙ ap (λ (o : Option ℕ). access_in_slot c.args.answers s.part o) (c.in-Some.ensures number turns s stands fits)
