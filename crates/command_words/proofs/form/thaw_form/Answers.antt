use Rattle.command_words.proofs.FormFacts.{with_more}
use Rattle.command_words.proofs.form.thaw_form.Goals as goal

pub returns : goal.returns
returns c =
    let bundle = c.position.ensures in
    let record_name = c.position-2.ensures in
    let state = c.position-3.ensures in
    let steps = c.needed_option.ensures in
    let stream = c.valued_option.ensures in
    let number = c.valued_option-2.ensures in
    with_more c.in_ok-thaw.ensures number.local number.rule
    (with_more c.in_ok-arg-5.ensures stream.local stream.rule
    (with_more c.in_ok-arg-4.ensures steps.local steps.rule
    (with_more c.in_ok-arg-3.ensures state.local state.rule
    (with_more c.in_ok-arg-2.ensures record_name.local record_name.rule
    (with_more c.in_ok-arg.ensures bundle.local bundle.rule c.bare_form.ensures)))))
