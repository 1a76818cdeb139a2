use Rattle.read_back.specs.Answering.{program_text}
use Rattle.read_back.specs.AnsweringOver.{missing_line}
use Rattle.read_back.proofs.AnsweredOver.{line_cut, line_then}
use Rattle.read_back.proofs.solo_over.solo_over_record.Goals as goal

pub returns-in-Ok-clause-shows : goal.returns-in-Ok-clause-shows
returns-in-Ok-clause-shows g c = λ d k p begins.
    line_then g.S.Shelf g.O.Sink (missing_line c.args.over.whole) _ _ _ c.in-Ok.ensures
    (c.solo_record.ensures.shows d k p begins)

pub returns-in-Err-clause-shows : goal.returns-in-Err-clause-shows
returns-in-Err-clause-shows g c = λ d k p begins.
    line_cut g.S.Shelf g.O.Sink d k p (program_text d k p) (missing_line c.args.over.whole) _ _ c.in-Err.ensures
