use Rattle.command_words.proofs.FormFacts.{with_more}
use Rattle.command_words.proofs.form.store_form.Goals as goal

pub returns : goal.returns
returns c =
    let bundle = c.position.ensures in
    let record_name = c.position-2.ensures in
    let old = c.position-3.ensures in
    let new = c.position-4.ensures in
    let next = c.position-5.ensures in
    let secret = c.needed_option.ensures in
    let counter = c.needed_option-2.ensures in
    let steps = c.needed_option-3.ensures in
    let stream = c.valued_option.ensures in
    let number = c.valued_option-2.ensures in
    with_more c.in_ok-store.ensures number.local number.rule
    (with_more c.in_ok-arg-9.ensures stream.local stream.rule
    (with_more c.in_ok-arg-8.ensures steps.local steps.rule
    (with_more c.in_ok-arg-7.ensures counter.local counter.rule
    (with_more c.in_ok-arg-6.ensures secret.local secret.rule
    (with_more c.in_ok-arg-5.ensures next.local next.rule
    (with_more c.in_ok-arg-4.ensures new.local new.rule
    (with_more c.in_ok-arg-3.ensures old.local old.rule
    (with_more c.in_ok-arg-2.ensures record_name.local record_name.rule
    (with_more c.in_ok-arg.ensures bundle.local bundle.rule c.bare_form.ensures)))))))))
