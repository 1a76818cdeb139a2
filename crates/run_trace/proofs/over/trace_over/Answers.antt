use Rattle.read_back.specs.AnsweringOver.{missing_line}
use Rattle.read_back.proofs.AnsweredOver.{line_cut, line_then}
use Rattle.run_trace.specs.ProgramTracing.{program_text}
use Rattle.run_trace.proofs.over.trace_over.Goals as goal

pub returns-in-Ok-clause-shows : goal.returns-in-Ok-clause-shows
returns-in-Ok-clause-shows g c = λ k p begins.
    line_then g.S.Shelf g.O.Sink (missing_line c.args.over.whole) _ _ _ c.in-Ok.ensures
    (c.trace_program.ensures.shows k p begins)

pub returns-in-Err-clause-shows : goal.returns-in-Err-clause-shows
returns-in-Err-clause-shows g c = λ k p begins.
    line_cut g.S.Shelf g.O.Sink c.args.number k p (program_text c.args.choice.now c.args.number k p)
    (missing_line c.args.over.whole) _ _ c.in-Err.ensures
