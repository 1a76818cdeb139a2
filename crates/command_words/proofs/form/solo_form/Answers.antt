use Rattle.command_words.proofs.FormFacts.{with_more}
use Rattle.command_words.proofs.form.solo_form.Goals as goal

pub returns : goal.returns
returns c =
    let domain = c.position.ensures in
    let bundle = c.position-2.ensures in
    let record_name = c.position-3.ensures in
    let files = c.valued_option.ensures in
    let secret = c.valued_option-2.ensures in
    let counter = c.valued_option-3.ensures in
    with_more c.in_ok-solo.ensures counter.local counter.rule
    (with_more c.in_ok-arg-5.ensures secret.local secret.rule
    (with_more c.in_ok-arg-4.ensures files.local files.rule
    (with_more c.in_ok-arg-3.ensures record_name.local record_name.rule
    (with_more c.in_ok-arg-2.ensures bundle.local bundle.rule
    (with_more c.in_ok-arg.ensures domain.local domain.rule c.bare_form.ensures)))))
