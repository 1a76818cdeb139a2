use Rattle.std.proofs.Common.{◌∙◌, ap, List, ℕ}
use Rattle.replayed_run.specs.Questions.{word_in_page, word_of_bytes}
use Rattle.replayed_run.proofs.questions.word_at.Goals as goal

pub returns-in-None : goal.returns-in-None
returns-in-None c number turns s stands fits =
    ap (word_in_page s.part c.args.address) (c.in-None.ensures.value number turns s stands fits)

pub returns-in-Some : goal.returns-in-Some
returns-in-Some c number turns s stands fits =
    c.word_of_bytes.ensures
    ∙ (ap (λ (bytes : List ℕ). word_of_bytes bytes c.args.address) (c.page.ensures number turns s stands fits)
    ∙ ap (word_in_page s.part c.args.address) (c.in-Some.ensures.value number turns s stands fits))
