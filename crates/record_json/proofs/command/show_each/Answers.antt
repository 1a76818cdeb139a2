use Rattle.std.proofs.Common.{false, refl}
use Rattle.kernel_report.proofs.PutFacts.{then, Puts-all, PutsMore-failed}
use Rattle.record_text.proofs.Answered.{answers, breaks}
use Rattle.record_json.specs.JsonText.{json_by}
use Rattle.record_json.proofs.command.show_each.Goals as goal

pub returns-in-Ok-clause-shows : goal.returns-in-Ok-clause-shows
returns-in-Ok-clause-shows g c =
    let shown = c.in-Ok.ensures.shows in
    answers (json_by false c.args.selection.now) c.args.name.now _ _ shown.items c.in-Ok.ending c.put_ending-so_far.result
    c.status_of.result shown.read (Puts-all _ _ _ refl (then shown.text c.put_ending-so_far.ensures)) c.status_of.ensures

pub returns-in-Err-clause-shows : goal.returns-in-Err-clause-shows
returns-in-Err-clause-shows g c =
    let shown = c.in-Err.ensures.shows in
    breaks (json_by false c.args.selection.now) c.args.name.now _ _ shown.1.items shown.0 c.in-Err.field-0 shown.1.read
    (Puts-all _ _ _ refl (then shown.1.text (PutsMore-failed _ _ _ _)))
