use Rattle.std.proofs.Common.{◌++◌, Bool, [], ap, if◌then◌else◌}
use Rattle.record_text.specs.Lines.{at_place, line_end, place_text}
use Rattle.kernel_report.proofs.PutFacts as put
use Rattle.record_text.proofs.lines.at_place.Goals as goal

pub returns-clause-text : goal.returns-clause-text
unfolding at_place
returns-clause-text g c =
    put.text_is (put.then c.end_line-so_far.ensures c.begin_bare-so_far.ensures)
    (ap (λ (b : Bool). line_end c.args.line ++ (if b then place_text c.args.place else [])) c.has_bare-bare.ensures)
