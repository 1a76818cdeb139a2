use Rattle.command_words.proofs.FormFacts.{with_more}
use Rattle.command_words.proofs.form.upgrade_form.Goals as goal

pub returns : goal.returns
returns c =
    let old = c.position.ensures in
    let new = c.position-2.ensures in
    with_more c.in_ok-upgrade.ensures new.local new.rule
    (with_more c.in_ok-arg.ensures old.local old.rule c.bare_form.ensures)
