use Rattle.std.proofs.Common.{◌≡◌, subst}
use Rattle.cloak_model.specs.Contexts.{Context}
use Rattle.replayed_run.specs.Questions.{second_access}
use Rattle.replayed_run.proofs.questions.second_access.Goals as goal

pub returns-in-Plain : goal.returns-in-Plain
returns-in-Plain c number turns s stands fits =
    subst (λ (x : Context). c.access_there.result ≡ second_access s.part x x.phase) c.c.view_is
    (rw c.in-Plain.is (c.access_there.ensures number turns s stands fits))
