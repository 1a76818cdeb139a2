use Rattle.command_words.proofs.FormFacts.{with_more}
use Rattle.command_words.proofs.form.gen_form.Goals as goal

pub returns : goal.returns
returns c =
    let number = c.position.ensures in
    let bundle = c.position-2.ensures in
    with_more c.in_ok-command.ensures bundle.local bundle.rule
    (with_more c.in_ok-arg.ensures number.local number.rule c.bare_form.ensures)
