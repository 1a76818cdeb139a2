use Rattle.std.proofs.Common.{ap}
use Rattle.replayed_run.specs.Questions.{access_as}
use Rattle.replayed_run.proofs.questions.access_at.Goals as goal

pub returns-in-Some : goal.returns-in-Some
returns-in-Some c number turns s stands fits =
    ap (access_as c.args.address c.args.kind) (c.in-Some.ensures.value number turns s stands fits)

pub returns-in-None : goal.returns-in-None
returns-in-None c number turns s stands fits =
    ap (access_as c.args.address c.args.kind) (c.in-None.ensures.value number turns s stands fits)
