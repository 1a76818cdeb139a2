use Rattle.std.proofs.Common.{◌∙◌, ap}
use Rattle.replayed_run.specs.Questions.{access_of_word}
use Rattle.replayed_run.proofs.questions.access_there.Goals as goal

pub returns : goal.returns
returns c number turns s stands fits =
    c.access_of_word.ensures number turns s stands fits
    ∙ ap (access_of_word s.part c.args.space c.args.regs.now c.args.pc) (c.word_at-word.ensures number turns s stands fits)
