use Rattle.std.proofs.Common.{refl}
use Rattle.replayed_run.proofs.questions.access_of_word.Goals as goal

pub returns-in-None : goal.returns-in-None
returns-in-None c number turns s stands fits = rw c.in-None.is refl

pub returns-in-Some : goal.returns-in-Some
returns-in-Some c number turns s stands fits =
    rw c.in-Some.is (c.access_of_instruction.ensures number turns s stands fits)
