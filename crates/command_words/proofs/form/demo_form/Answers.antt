use Rattle.command_words.proofs.FormFacts.{with_more}
use Rattle.command_words.proofs.form.demo_form.Goals as goal

pub returns : goal.returns
returns c =
    let number = c.position.ensures in
    let steps = c.needed_option.ensures in
    with_more c.in_ok-demo.ensures steps.local steps.rule
    (with_more c.in_ok-arg.ensures number.local number.rule c.bare_form.ensures)
