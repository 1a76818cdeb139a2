use Rattle.std.proofs.Common.{true, refl}
use Rattle.kernel_report.proofs.PutFacts.{then, Puts-all}
use Rattle.record_text.specs.Reading.{text_by}
use Rattle.record_text.proofs.Answered.{answers}
use Rattle.record_text.proofs.command.show_counts.Goals as goal

pub returns-clause-shows : goal.returns-clause-shows
returns-clause-shows g c =
    let counted = c.count_items-ending.ensures.counts in
    answers (text_by true c.args.selection.now) c.args.name.now _ _ counted.items c.count_items-ending.result.1
    c.put_ending-so_far.result c.status_of.result counted.read
    (Puts-all _ _ _ refl (then (c.put-so_far.ensures _ counted.counted) c.put_ending-so_far.ensures)) c.status_of.ensures
