use Rattle.command_words.proofs.FormFacts.{with_more}
use Rattle.command_words.proofs.form.view_form.Goals as goal

pub returns : goal.returns
returns c =
    let bundle = c.position.ensures in
    let record_name = c.position-2.ensures in
    with_more c.in_ok-view.ensures record_name.local record_name.rule
    (with_more c.in_ok-arg.ensures bundle.local bundle.rule c.bare_form.ensures)
